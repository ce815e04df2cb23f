-- How a call of a map or a set fails.
use Rattle.std.specs.Prelude.{Result, IsOkUnless}
use Rattle.wasmi_arena.specs.declared.error.ArenaError.{ArenaError}
use Rattle.wasmi_arena.specs.declared.error.ArenaError.TheVariants.{OutOfSystemMemory}

-- the call fails, if it does, because memory ran out, and for nothing else.
-- `insert` fails so.
abbrev pub FailsOnlyForMemory : {T : Type 0} → Result T ArenaError → Type 0
FailsOnlyForMemory result = IsOkUnless result OutOfSystemMemory
