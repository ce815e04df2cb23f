-- What contracts say of calls that add several items, one by one.
use Rattle.std.specs.Prelude.{◌≡◌, ℕ, ◌<◌, ◌≤◌, List, ◌++◌, length, Option, Some}
use Rattle.std.specs.List.{All}
use Rattle.std.specs.Iterator.{Drains, YieldsThen}
use Rattle.wasmi_arena.specs.Geometry.{room}
use Rattle.wasmi_arena.specs.declared.error.ArenaError.{ArenaError}
use Rattle.wasmi_arena.specs.declared.error.ArenaError.TheVariants.{OutOfSystemMemory, KeyOutOfBounds, NotEnoughKeys, AliasingPairAccess, DuplicateItem}

-- why one more item is refused by a vector or a stable arena that has n items and holds at most
-- `limit`: it is full, or it isn't but has no room and got no memory
abbrev pub RefusesOneMore : ℕ → ℕ → ArenaError → Type 0
RefusesOneMore limit n NotEnoughKeys = limit ≤ n
RefusesOneMore limit n OutOfSystemMemory = (n < limit) × (room n ≡ 0)
RefusesOneMore limit n KeyOutOfBounds = ⊥
RefusesOneMore limit n AliasingPairAccess = ⊥
RefusesOneMore limit n DuplicateItem = ⊥

-- what is made an iterator by `becomes`, which then steps by `steps`
module _ {U S I : Type 0} (becomes : U → S → Type 0) (steps : S → Option I → S → Type 0) where
  -- it gave all its items, of which `P` holds
  abbrev pub GivesAll : (List I → Type 0) → U → Type 0
  GivesAll P iter = (it : S) × (items : List I) × becomes iter it × Drains steps it items × P items

  -- it gave items and then one more, and `P` holds of those and this one
  abbrev pub GivesUpTo : (List I → I → Type 0) → U → Type 0
  GivesUpTo P iter =
      (it : S) × (items : List I) × (item : I) × (rest : S) × becomes iter it × YieldsThen steps it items (Some item) rest
      × P items item

-- the same of what goes into a list
module _ {U S T : Type 0} (becomes : U → S → Type 0) (steps : S → Option T → S → Type 0) where
  -- all its items went in at the end, in order.
  -- `extend` of 7 by 8, 9: 7, 8, 9.
  abbrev pub TakesAll : U → List T → List T → Type 0
  TakesAll iter old new = GivesAll becomes steps (λ xs. new ≡ old ++ xs) iter

  -- its items went in at the end, in order, up to one that did not.
  -- Up to 9: 7, 8.
  abbrev pub TakesUpTo : U → List T → List T → Type 0
  TakesUpTo iter old new = GivesUpTo becomes steps (λ xs _. new ≡ old ++ xs) iter

  -- its items went in at the end, in order, up to one that was refused for what `refuses` says of so many.
  -- `extend` of 30 items by 5 without memory: two go in, then `OutOfSystemMemory`.
  abbrev pub TakesUntilRefused : (ℕ → ArenaError → Type 0) → U → List T → List T → ArenaError → Type 0
  TakesUntilRefused refuses iter old new error = TakesUpTo iter old new × refuses (length new) error

-- so many items went in at the end, and `P` holds of each.
-- `alloc_many(2)` of numbers: 0, 0.
abbrev pub AppendsMany : {T : Type 0} → (T → Type 0) → ℕ → List T → List T → Type 0
AppendsMany {T} P amount old new = (made : List T) × (new ≡ old ++ made) × (length made ≡ amount) × All P made
