-- What contracts say of calls that put several items into an arena in one vector, one by one.
use Rattle.std.specs.Prelude.{◌≡◌, ◌⊎◌, ℕ, ◌*◌, ◌^◌, ◌<◌, ◌≤◌}
use Rattle.wasmi_arena.specs.declared.error.ArenaError.{ArenaError}
use Rattle.wasmi_arena.specs.declared.error.ArenaError.TheVariants.{OutOfSystemMemory, KeyOutOfBounds, NotEnoughKeys, AliasingPairAccess, DuplicateItem}

-- n items fill a block that grew with them: at first there is none, then it holds 4, 8, 16 and so on
abbrev pub FillsBlock : ℕ → Type 0
FillsBlock n = (n ≡ 0) ⊎ ((k : ℕ) × (n ≡ 4 * 2 ^ k))

-- why one more item is refused by an arena of n items that came one by one, of which it holds at most
-- `limit`: it is full, or it isn't but has no room and got no memory.
-- After 2 items memory can't run out.
abbrev pub RefusesOneMore : ℕ → ℕ → ArenaError → Type 0
RefusesOneMore limit n NotEnoughKeys = limit ≤ n
RefusesOneMore limit n OutOfSystemMemory = (n < limit) × FillsBlock n
RefusesOneMore limit n KeyOutOfBounds = ⊥
RefusesOneMore limit n AliasingPairAccess = ⊥
RefusesOneMore limit n DuplicateItem = ⊥
