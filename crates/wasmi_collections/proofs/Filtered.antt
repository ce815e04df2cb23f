-- A filter of a list that changes its order, and a map's entries without one.
-- for src/arena/dedup/replace.rt
use Rattle.std.proofs.Common.{◌≡◌, ℕ, zero, suc, ◌<◌, Bool, true, false, cond, not, List, [], ◌∷◌, length, filter, get_or, slice_set, IsPermutation, refl, sym, ap, ◌∙◌, arith}
use Rattle.std.specs.Cmp.{IsEquivalence}
use Rattle.std.specs.List.{AllByRecursion, IsDistinct, swap}
use Rattle.std.specs.Map.{keys_of, remove_entry}
use Rattle.std.proofs.lemmas.List.Sorted.{IsPermutation-refl, IsPermutation-trans, IsPermutation-cons, IsPermutation-middle, IsPermutation-keeps}
use Rattle.std.proofs.lemmas.Map.Entries.{none_past_head}
use Rattle.std.proofs.lemmas.Map.Keys.{IsDistinct-tail}

-- a filter keeps what all pass
pub filter-all : {X : Type 0} (p : X → Bool) (xs : List X) → AllByRecursion (λ x. p x ≡ true) xs → filter p xs ≡ xs
filter-all p [] all = refl
filter-all p (x ∷ xs) all = ap (λ b. cond b (x ∷ filter p xs) (filter p xs)) all.0 ∙ ap (λ ys. x ∷ ys) (filter-all p xs all.1)

module _ {X : Type 0} (p : X → Bool) where
  -- an element before a filter, where it passes
  abbrev before : X → List X → List X
  before x xs = cond (p x) (x ∷ xs) xs

  before-IsPermutation : (x : X) (xs ys : List X) → IsPermutation xs ys → IsPermutation (before x xs) (before x ys)
  before-IsPermutation x xs ys same = next (p x)
    where
      next : (b : Bool) → IsPermutation (cond b (x ∷ xs) xs) (cond b (x ∷ ys) ys)
      next true = IsPermutation-cons x xs ys same
      next false = same

  before-before : (x y : X) (xs : List X) → IsPermutation (before x (before y xs)) (before y (before x xs))
  before-before x y xs = next (p x) (p y)
    where
      next : (b c : Bool) → IsPermutation (cond b (x ∷ cond c (y ∷ xs) xs) (cond c (y ∷ xs) xs)) (cond c (y ∷ cond b (x ∷ xs) xs) (cond b (x ∷ xs) xs))
      next true true = IsPermutation-middle (x ∷ []) y xs
      next true false = IsPermutation-refl (x ∷ xs)
      next false true = IsPermutation-refl (y ∷ xs)
      next false false = IsPermutation-refl xs

  -- the first element and a later one change places
  filter-front : (x d : X) (xs : List X) (k : ℕ) → k < length xs → IsPermutation (filter p (x ∷ xs)) (filter p (get_or xs k d ∷ slice_set xs k x))
  filter-front x d [] k low = absurd (omega (arith, low))
  filter-front x d (y ∷ ys) zero low = before-before x y (filter p ys)
  filter-front x d (y ∷ ys) (suc k) low =
      let z = get_or ys k d in let rest = filter p (slice_set ys k x) in
      IsPermutation-trans (before x (before y (filter p ys))) (before y (before x (filter p ys))) (before z (before y rest)) (before-before x y (filter p ys))
      (IsPermutation-trans (before y (before x (filter p ys))) (before y (before z rest)) (before z (before y rest))
      (before-IsPermutation y (before x (filter p ys)) (before z rest) (filter-front x d ys k (omega (arith, low)))) (before-before y z rest))

  filter-set_set : (d : X) (xs : List X) (i j : ℕ) → i < length xs → j < length xs
      → IsPermutation (filter p xs) (filter p (slice_set (slice_set xs i (get_or xs j d)) j (get_or xs i d)))
  filter-set_set d [] i j low low2 = absurd (omega (arith, low))
  filter-set_set d (x ∷ xs) zero zero low low2 = IsPermutation-refl (filter p (x ∷ xs))
  filter-set_set d (x ∷ xs) zero (suc j) low low2 = filter-front x d xs j (omega (arith, low2))
  filter-set_set d (x ∷ xs) (suc i) zero low low2 = filter-front x d xs i (omega (arith, low))
  filter-set_set d (x ∷ xs) (suc i) (suc j) low low2 =
      before-IsPermutation x (filter p xs) (filter p (slice_set (slice_set xs i (get_or xs j d)) j (get_or xs i d))) (filter-set_set d xs i j (omega (arith, low)) (omega (arith, low2)))

  filter-swap : (xs : List X) (i j : ℕ) → i < length xs → j < length xs → IsPermutation (filter p xs) (filter p (swap xs i j))
  filter-swap [] i j low low2 = absurd (omega (arith, low))
  filter-swap (x ∷ xs) i j low low2 = filter-set_set x (x ∷ xs) i j low low2

  pub filter-IsPermutation : (xs ys : List X) → IsPermutation xs ys → IsPermutation (filter p xs) (filter p ys)
  filter-IsPermutation xs ys same =
      IsPermutation-keeps xs (λ zs. IsPermutation (filter p xs) (filter p zs)) (IsPermutation-refl (filter p xs))
      (λ zs i j low low2 so_far. IsPermutation-trans (filter p xs) (filter p zs) (filter p (swap zs i j)) so_far (filter-swap zs i j low low2)) ys same

module _ {K X : Type 0} {eq : K → K → Bool} (laws : IsEquivalence eq) (k : K) where
  none_is_all : (es : List (K × X)) → AllByRecursion (λ e. eq k e.0 ≡ false) es → AllByRecursion (λ e. not (eq k e.0) ≡ true) es
  none_is_all [] none = tt
  none_is_all (e ∷ es) none = (ap not none.0, none_is_all es none.1)

  -- where keys are distinct, a map without a key is a filter of it
  pub remove_entry-filter : (es : List (K × X)) → IsDistinct eq (keys_of es) → remove_entry (eq k) es ≡ filter (λ e. not (eq k e.0)) es
  remove_entry-filter [] distinct = refl
  remove_entry-filter (e ∷ es) distinct = next (eq k e.0) refl (remove_entry-filter es (IsDistinct-tail eq e.0 (keys_of es) distinct))
    where
      next : (b : Bool) → eq k e.0 ≡ b → remove_entry (eq k) es ≡ filter (λ f. not (eq k f.0)) es
          → cond b es (e ∷ remove_entry (eq k) es) ≡ cond (not b) (e ∷ filter (λ f. not (eq k f.0)) es) (filter (λ f. not (eq k f.0)) es)
      next true is rest = sym (filter-all (λ (f : K × X). not (eq k f.0)) es (none_is_all es (none_past_head laws k e es distinct is)))
      next false is rest = ap (λ fs. e ∷ fs) rest
