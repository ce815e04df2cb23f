-- A search in a list that is sorted, seen as how each item compares with what is sought.
use Rattle.std.specs.Prelude.{◌≡◌, ℕ, Bool, List, [], ◌∷◌, ◌++◌, replicate, Some, Result, Ok, Err, if◌then◌else◌, slice_get}
use Rattle.std.specs.declared.cmp.Ordering.{Ordering}
use Rattle.std.specs.declared.cmp.Ordering.TheVariants.{Less, Equal, Greater}

-- so many items are `Less`, then one is `Equal` if what is sought is there, and so many are `Greater`.
-- Of `1 true 2`: `Less`, `Equal`, `Greater`, `Greater`.
abbrev pub sorted_orders : ℕ → Bool → ℕ → List Ordering
sorted_orders less is_there greater =
    replicate less Less ++ (if is_there then Equal ∷ [] else []) ++ replicate greater Greater

-- the orders are those of a sorted list.
-- `Greater`, `Less` are not, nor is `Equal` twice.
pub record IsSearchable (orders : List Ordering) : Type 0 where
  pub less : ℕ
  pub is_there : Bool
  pub greater : ℕ
  pub orders_are : orders ≡ sorted_orders less is_there greater

-- what a search answers: the place of `Equal`, or the number of `Less` where nothing is `Equal`.
-- Of `Less`, `Greater`: `Err(1)`.
abbrev pub IsFound : List Ordering → Result ℕ ℕ → Type 0
IsFound orders (Ok place) = slice_get orders place ≡ Some Equal
IsFound orders (Err less) = (greater : ℕ) × (orders ≡ replicate less Less ++ replicate greater Greater)
