-- How far a search in a sorted list has come.
use Rattle.std.specs.Prelude.{◌≡◌, ℕ, ◌<◌, ◌≤◌, ◌⊎◌, Option, Some}
use Rattle.std.specs.declared.cmp.Ordering.{Ordering}
use Rattle.std.specs.declared.cmp.Ordering.TheVariants.{Less, Greater}

-- of two of so many places, each with the order of its item, the earlier is `Less` or the later `Greater`
abbrev pub IsInOrder : (ℕ → Option Ordering) → ℕ → Type 0
IsInOrder order count = (i j : ℕ) → i < j → j < count → (order i ≡ Some Less) ⊎ (order j ≡ Some Greater)

-- what is sought at so many places stands or belongs from `low` on and before `high`, or belongs at `high`
pub record IsNarrowed (order : ℕ → Option Ordering) (count low high : ℕ) : Type 0 where
  pub ends : low ≤ high
  pub within : high ≤ count
  pub before : (i : ℕ) → i < low → order i ≡ Some Less
  pub after : (i : ℕ) → high ≤ i → i < count → order i ≡ Some Greater
