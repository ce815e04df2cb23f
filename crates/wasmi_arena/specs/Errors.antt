-- The texts of the errors.
use Rattle.std.specs.Prelude.{ℕ, List, codes}
use Rattle.wasmi_arena.specs.declared.error.ArenaError.{ArenaError}
use Rattle.wasmi_arena.specs.declared.error.ArenaError.TheVariants.{OutOfSystemMemory, KeyOutOfBounds, NotEnoughKeys, AliasingPairAccess, DuplicateItem}

-- what each error says, in bytes
abbrev pub text_of : ArenaError → List ℕ
text_of OutOfSystemMemory = codes "ran out of system memory"
text_of KeyOutOfBounds = codes "encounteded out of bounds key"
text_of NotEnoughKeys = codes "ran out of valid keys"
text_of AliasingPairAccess = codes "tried to access aliasing item pair"
text_of DuplicateItem = codes "item is already in the arena"
