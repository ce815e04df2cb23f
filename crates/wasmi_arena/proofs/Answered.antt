-- What an answer on two items says in single clauses.
use Rattle.std.proofs.Common.{◌≡◌, ◌≢◌, ◌≤◌, ℕ, suc, Bool, true, false, List, [], ◌∷◌, length, set, inl, inr, refl, subst, arith, MutBor}
use Rattle.std.proofs.lemmas.Option.{slice_get_within}
use lib.Dec.{T}
use mathlib.Core.Bool.{not}
use Rattle.std.specs.Prelude.{◌↔◌, ◌⊎◌, Result, Ok, Err, IfOk, IfErr, IsErrOf, slice_get, Some}
use Rattle.wasmi_arena.specs.Pairs.{with_both}
use Rattle.wasmi_arena.specs.inner.Pairs.{PairAnswer, AreNumbers}
use Rattle.wasmi_arena.specs.declared.error.ArenaError.{ArenaError}
use Rattle.wasmi_arena.specs.declared.error.ArenaError.TheVariants.{OutOfSystemMemory, KeyOutOfBounds, NotEnoughKeys, AliasingPairAccess, DuplicateItem}

aliases : {A : Type 0} → Result A ArenaError → Bool
aliases (Err AliasingPairAccess) = true
aliases (Err KeyOutOfBounds) = false
aliases (Err OutOfSystemMemory) = false
aliases (Err NotEnoughKeys) = false
aliases (Err DuplicateItem) = false
aliases (Ok x) = false

-- the same, and true of a value
not_bounds : {A : Type 0} → Result A ArenaError → Bool
not_bounds (Err AliasingPairAccess) = true
not_bounds (Err KeyOutOfBounds) = false
not_bounds (Err OutOfSystemMemory) = true
not_bounds (Err NotEnoughKeys) = true
not_bounds (Err DuplicateItem) = true
not_bounds (Ok x) = true

module _ {R : Type 0} (items : List R) (first second : ℕ) where
  within : (pair : MutBor R × MutBor R) → PairAnswer items first second (Ok pair) → (length items ≤ first) ⊎ (length items ≤ second) → ⊥
  within pair told (inl out) = let low = slice_get_within items first pair.0.now told.1 in omega arith
  within pair told (inr out) = let high = slice_get_within items second pair.1.now told.2 in omega arith

  pub answered-items : (r : Result (MutBor R × MutBor R) ArenaError) → PairAnswer items first second r
      → IfOk r (λ pair. (slice_get items first ≡ Some pair.0.now) × (slice_get items second ≡ Some pair.1.now))
  answered-items (Ok pair) told = (told.1, told.2)
  answered-items (Err e) told = tt

  pub answered-aliasing : (r : Result (MutBor R × MutBor R) ArenaError) → PairAnswer items first second r → IsErrOf r AliasingPairAccess ↔ (first ≡ second)
  unfolding aliases
  answered-aliasing (Ok pair) told = ((λ e. absurd (subst (λ r. T (not (aliases r))) e tt)), λ same. absurd (told.0 same))
  answered-aliasing (Err AliasingPairAccess) told = ((λ e. told), λ same. refl)
  answered-aliasing (Err KeyOutOfBounds) told = ((λ e. absurd (subst (λ r. T (not (aliases r))) e tt)), λ same. absurd (told.0 same))
  answered-aliasing (Err OutOfSystemMemory) told = absurd told
  answered-aliasing (Err NotEnoughKeys) told = absurd told
  answered-aliasing (Err DuplicateItem) told = absurd told

  pub answered-bounds : (r : Result (MutBor R × MutBor R) ArenaError) → PairAnswer items first second r
      → IsErrOf r KeyOutOfBounds ↔ ((first ≢ second) × ((length items ≤ first) ⊎ (length items ≤ second)))
  unfolding not_bounds
  answered-bounds (Ok pair) told = ((λ e. absurd (subst (λ r. T (not_bounds r)) e tt)), λ out. absurd (within pair told out.1))
  answered-bounds (Err AliasingPairAccess) told = ((λ e. absurd (subst (λ r. T (not_bounds r)) e tt)), λ out. absurd (out.0 told))
  answered-bounds (Err KeyOutOfBounds) told = ((λ e. told), λ out. refl)
  answered-bounds (Err OutOfSystemMemory) told = absurd told
  answered-bounds (Err NotEnoughKeys) told = absurd told
  answered-bounds (Err DuplicateItem) told = absurd told

  abbrev pub Errors : Result (MutBor R × MutBor R) ArenaError → Type 0
  Errors r = IfErr r (λ error. (error ≡ AliasingPairAccess) ⊎ (error ≡ KeyOutOfBounds))

  pub answered-errors : (r : Result (MutBor R × MutBor R) ArenaError) → PairAnswer items first second r → Errors r
  answered-errors (Ok pair) told = tt
  answered-errors (Err AliasingPairAccess) told = inl refl
  answered-errors (Err KeyOutOfBounds) told = inr refl
  answered-errors (Err OutOfSystemMemory) told = absurd told
  answered-errors (Err NotEnoughKeys) told = absurd told
  answered-errors (Err DuplicateItem) told = absurd told

-- the same of two keys, of which these are the numbers
module _ {K R : Type 0} (number : K → ℕ) (items : List R) (keys : List K) where
  abbrev pub Items : Result (MutBor R × MutBor R) ArenaError → Type 0
  Items r = (first second : K) → keys ≡ first ∷ second ∷ [] → IfOk r (λ pair. (slice_get items (number first) ≡ Some pair.0.now) × (slice_get items (number second) ≡ Some pair.1.now))

  abbrev pub Aliasing : Result (MutBor R × MutBor R) ArenaError → Type 0
  Aliasing r = (first second : K) → keys ≡ first ∷ second ∷ [] → IsErrOf r AliasingPairAccess ↔ (number first ≡ number second)

  abbrev pub Bounds : Result (MutBor R × MutBor R) ArenaError → Type 0
  Bounds r = (first second : K) → keys ≡ first ∷ second ∷ []
      → IsErrOf r KeyOutOfBounds ↔ ((number first ≢ number second) × ((length items ≤ number first) ⊎ (length items ≤ number second)))

  module _ (i j : ℕ) (are : AreNumbers number keys i j) (r : Result (MutBor R × MutBor R) ArenaError) (told : PairAnswer items i j r) where
    of_keys : (first second : K) → keys ≡ first ∷ second ∷ [] → PairAnswer items (number first) (number second) r
    of_keys first second e = let n = are first second e in subst (λ k. PairAnswer items k (number second) r) n.0 (subst (λ k. PairAnswer items i k r) n.1 told)

    pub asked-items : Items r
    asked-items first second e = answered-items items (number first) (number second) r (of_keys first second e)

    pub asked-aliasing : Aliasing r
    asked-aliasing first second e = answered-aliasing items (number first) (number second) r (of_keys first second e)

    pub asked-bounds : Bounds r
    asked-bounds first second e = answered-bounds items (number first) (number second) r (of_keys first second e)

none_is_two : (n : ℕ) → n ≡ 0 → n ≡ 2 → ⊥
none_is_two n none two = omega (arith, none, two)

one_is_two : (n : ℕ) → n ≡ 1 → n ≡ 2 → ⊥
one_is_two n one two = omega (arith, one, two)

more_is_two : (n : ℕ) → suc (suc (suc n)) ≡ 2 → ⊥
more_is_two n two = omega (arith, two)

-- two writes at the numbers of two keys are two writes under the keys
pub asked-writes : {K R : Type 0} (number : K → ℕ) (items : List R) (both : List K) (i j : ℕ) → AreNumbers number both i j → length both ≡ 2 → (x y : R)
    → set (set items i x) j y ≡ with_both number items both x y
asked-writes number items [] i j are two x y = absurd (none_is_two _ refl two)
asked-writes number items (one ∷ []) i j are two x y = absurd (one_is_two _ refl two)
asked-writes number items (one ∷ other ∷ []) i j are two x y = let n = are one other refl in λ k. set (set items (n.0 k) x) (n.1 k) y
asked-writes number items (one ∷ other ∷ more ∷ rest) i j are two x y = absurd (more_is_two (length rest) two)
