-- What asking for two items of a list answers.
use Rattle.std.specs.Prelude.{◌≡◌, ◌≢◌, ◌≤◌, ◌⊎◌, ℕ, List, [], ◌∷◌, length, Result, Ok, Err, slice_get, Some}
use Rattle.std.specs.Borrow.{MutBor}
use Rattle.wasmi_arena.specs.declared.error.ArenaError.{ArenaError}
use Rattle.wasmi_arena.specs.declared.error.ArenaError.TheVariants.{OutOfSystemMemory, KeyOutOfBounds, NotEnoughKeys, AliasingPairAccess, DuplicateItem}

module _ {R : Type 0} (items : List R) (first second : ℕ) where
  -- the two items, or why not
  abbrev pub PairAnswer : Result (MutBor R × MutBor R) ArenaError → Type 0
  PairAnswer (Ok pair) = (first ≢ second) × (slice_get items first ≡ Some pair.0.now) × (slice_get items second ≡ Some pair.1.now)
  PairAnswer (Err AliasingPairAccess) = first ≡ second
  PairAnswer (Err KeyOutOfBounds) = (first ≢ second) × ((length items ≤ first) ⊎ (length items ≤ second))
  PairAnswer (Err OutOfSystemMemory) = ⊥
  PairAnswer (Err NotEnoughKeys) = ⊥
  PairAnswer (Err DuplicateItem) = ⊥

-- these are the numbers of two keys
abbrev pub AreNumbers : {K : Type 0} → (K → ℕ) → List K → ℕ → ℕ → Type 0
AreNumbers {K} number keys i j = (first second : K) → keys ≡ first ∷ second ∷ [] → (i ≡ number first) × (j ≡ number second)
