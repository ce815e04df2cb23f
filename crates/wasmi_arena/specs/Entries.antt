-- The items of an arena beside their keys.
use Rattle.std.specs.Prelude.{ℕ, ◌+◌, List, [], ◌∷◌}
use Rattle.wasmi_arena.specs.Keys.{Keys}

module _ {K T : Type 0} (keys : Keys K) where
  -- each item beside the key of its position, where the first stands at `from`
  abbrev pub entries_from : ℕ → List T → List (K × T)
  entries_from from [] = []
  entries_from from (x ∷ xs) = (keys.key from, x) ∷ entries_from (from + 1) xs

  -- each item of an arena beside its key.
  -- Of 7, 8 under `NonZero<u32>`: (1, 7), (2, 8).
  abbrev pub entries : List T → List (K × T)
  entries items = entries_from 0 items
