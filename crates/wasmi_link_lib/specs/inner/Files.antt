-- Why modules that were read aren't linked.
use Rattle.std.specs.Prelude.{◌≡◌, ◌⊎◌}
use Rattle.wasmi_arena.specs.declared.error.ArenaError.TheVariants.{NotEnoughKeys, OutOfSystemMemory}
use Rattle.wasmi_link_lib.specs.declared.files.LinkError.{LinkError}
use Rattle.wasmi_link_lib.specs.declared.files.LinkError.TheVariants.{NotAModule, Refused}
use Rattle.wasmi_link_lib.specs.Lines.{Linked}
use Rattle.wasmi_link_lib.specs.Linking.{IsPastKeys}

-- there is no memory, or what linking finds out is past the keys
abbrev pub IsShortage : Linked → LinkError → Type 0
IsShortage found (NotAModule place error) = ⊥
IsShortage found (Refused error) = (error ≡ OutOfSystemMemory) ⊎ ((error ≡ NotEnoughKeys) × IsPastKeys found)
