-- What a contract sees of a hashed map and a hashed set.
use Rattle.std.specs.Prelude.{List}

-- its entries, in the order of a walk, which a change may alter, and the state that hashes its keys.
-- After `map.insert(1, a)?` into an empty map the entries are (1, a).
pub record Entries (K V S : Type 0) : Type 0 where
  pub entries : List (K × V)
  pub hasher : S

-- its elements, in the order of a walk, which a change may alter, and the state that hashes them
pub record Elements (T S : Type 0) : Type 0 where
  pub elements : List T
  pub hasher : S
