-- When two finite maps, or two finite sets, are the same, and the laws of that.
use Rattle.std.proofs.Common.{◌≡◌, Bool, true, false, not, cond, ◌&&◌, ◌||◌, List, [], ◌∷◌, ◌++◌, Option, Some, None, refl, sym, ap, ◌∙◌, true≢false, append-nil}
use Rattle.std.specs.Bool.{Decides, one_answer}
use Rattle.std.specs.Cmp.{IsPartialEquivalence, IsEquivalence, equiv, partial_equiv_from_equiv, first_so, second_so}
use Rattle.std.specs.List.{list_all}
use Rattle.std.specs.Map.{keys_of, lookup}
use Rattle.std.specs.Option.{option_eq}
use Rattle.std.specs.Set.{is_member}

-- whether both are true, or neither
abbrev pub both_or_neither : Bool → Bool → Bool
both_or_neither p q = cond p q (not q)

module _ {K : Type 0} (eq : K → K → Bool) where
  -- whether two maps have equal values under each key of either.
  -- (1, a), (2, b) and (2, b), (1, a) are the same. `same_map-decides` says it of every key.
  abbrev pub same_map : {V : Type 0} → (V → V → Bool) → List (K × V) → List (K × V) → Bool
  same_map E a b = list_all (λ k. option_eq E (lookup (eq k) a) (lookup (eq k) b)) (keys_of a ++ keys_of b)

  -- whether each element of two sets is in both.
  -- `same_set-decides` says it of every element.
  abbrev pub same_set : List K → List K → Bool
  same_set a b = list_all (λ x. both_or_neither (is_member eq a x) (is_member eq b x)) (a ++ b)

alike : (p q : Bool) → Decides (both_or_neither p q) (p ≡ q)
alike true true = (λ h. refl, λ h. refl)
alike true false = (λ h. sym h, λ h. sym h)
alike false true = (λ h. h, λ h. h)
alike false false = (λ h. refl, λ h. refl)

module _ {K : Type 0} {eq : K → K → Bool} (laws : IsEquivalence eq) where
  -- a test that equal keys pass alike, and each key that isn't in the list, holds of all keys if it does
  -- of the list
  module _ (agree : K → Bool) (congr : (q x : K) → eq q x ≡ true → agree q ≡ agree x) where
    of_member : (xs : List K) (q : K) → list_all agree xs ≡ true → is_member eq xs q ≡ true → agree q ≡ true
    of_member [] q all is = absurd (true≢false (sym is))
    of_member (x ∷ xs) q all is = next (of_member xs q (second_so (agree x) (list_all agree xs) all)) (eq q x) refl is
      where
        next : (is_member eq xs q ≡ true → agree q ≡ true) → (b : Bool) → eq q x ≡ b → (b || is_member eq xs q) ≡ true → agree q ≡ true
        next rest true same is = congr q x same ∙ first_so (agree x) (list_all agree xs) all
        next rest false same is = rest is

    of_all : ((q : K) → agree q ≡ true) → (xs : List K) → list_all agree xs ≡ true
    of_all each [] = refl
    of_all each (x ∷ xs) = ap (λ b. b && list_all agree xs) (each x) ∙ of_all each xs

    pub list_all-decides : (xs : List K) → ((q : K) → is_member eq xs q ≡ false → agree q ≡ true) → Decides (list_all agree xs) ((q : K) → agree q ≡ true)
    list_all-decides xs outside = (λ all q. next all q (is_member eq xs q) refl, λ each. of_all each xs)
      where
        next : list_all agree xs ≡ true → (q : K) (b : Bool) → is_member eq xs q ≡ b → agree q ≡ true
        next all q true is = of_member xs q all is
        next all q false is = outside q is

  lookup-congr : {V : Type 0} (entries : List (K × V)) (q x : K) → eq q x ≡ true → lookup (eq q) entries ≡ lookup (eq x) entries
  lookup-congr [] q x same = refl
  lookup-congr (e ∷ entries) q x same = λ i. cond (laws.congr q x e.0 same i) (Some e.1) (lookup-congr entries q x same i)

  -- a key that is neither in a map nor in a list
  lookup-outside : {V : Type 0} (entries : List (K × V)) (more : List K) (q : K) → is_member eq (keys_of entries ++ more) q ≡ false → (lookup (eq q) entries ≡ None) × (is_member eq more q ≡ false)
  lookup-outside [] more q out = (refl, out)
  lookup-outside (e ∷ entries) more q out = next (lookup-outside entries more q) (eq q e.0) refl out
    where
      next : (is_member eq (keys_of entries ++ more) q ≡ false → (lookup (eq q) entries ≡ None) × (is_member eq more q ≡ false))
          → (b : Bool) → eq q e.0 ≡ b → (b || is_member eq (keys_of entries ++ more) q) ≡ false → (lookup (eq q) (e ∷ entries) ≡ None) × (is_member eq more q ≡ false)
      next rest true same out = absurd (true≢false out)
      next rest false same out = (ap (λ b. cond b (Some e.1) (lookup (eq q) entries)) same ∙ (rest out).0, (rest out).1)

  lookup-absent : {V : Type 0} (entries : List (K × V)) (q : K) → is_member eq (keys_of entries) q ≡ false → lookup (eq q) entries ≡ None
  lookup-absent entries q out = (lookup-outside entries [] q (ap (λ ks. is_member eq ks q) (append-nil (keys_of entries)) ∙ out)).0

  module _ {V : Type 0} (E : V → V → Bool) where
    -- two maps are the same exactly where each key has equal values in both, or none
    pub same_map-decides : (a b : List (K × V)) → Decides (same_map eq E a b) ((q : K) → option_eq E (lookup (eq q) a) (lookup (eq q) b) ≡ true)
    same_map-decides a b =
        list_all-decides (λ q. option_eq E (lookup (eq q) a) (lookup (eq q) b))
        (λ q x same i. option_eq E (lookup-congr a q x same i) (lookup-congr b q x same i))
        (keys_of a ++ keys_of b)
        (λ q out. let rest = lookup-outside a (keys_of b) q out in λ i. option_eq E (rest.0 i) (lookup-absent b q rest.1 i))

    module _ (per : IsPartialEquivalence E) where
      option-symm : (x y : Option V) → option_eq E x y ≡ option_eq E y x
      option-symm None None = refl
      option-symm None (Some y) = refl
      option-symm (Some x) None = refl
      option-symm (Some x) (Some y) = per.symm x y

      option-trans : (x y z : Option V) → option_eq E x y ≡ true → option_eq E y z ≡ true → option_eq E x z ≡ true
      option-trans None None z first second = second
      option-trans None (Some y) z first second = absurd (true≢false (sym first))
      option-trans (Some x) None z first second = absurd (true≢false (sym first))
      option-trans (Some x) (Some y) None first second = second
      option-trans (Some x) (Some y) (Some z) first second = per.trans x y z first second

      -- where the test of values is symmetric and transitive, so is that of maps
      pub same_map-per : IsPartialEquivalence (same_map eq E)
      same_map-per = record {
        symm = λ a b. one_answer _ _ (same_map-decides a b) (λ same q. option-symm (lookup (eq q) a) (lookup (eq q) b) ∙ (same_map-decides b a).0 same q, λ each. (same_map-decides b a).1 (λ q. sym (option-symm (lookup (eq q) a) (lookup (eq q) b)) ∙ each q));
        trans = λ a b c first second. (same_map-decides a c).1 (λ q. option-trans (lookup (eq q) a) (lookup (eq q) b) (lookup (eq q) c) ((same_map-decides a b).0 first q) ((same_map-decides b c).0 second q));
      }

    -- where the test of values finds a value equal to itself, so does that of maps
    pub same_map-equiv : IsEquivalence E → IsEquivalence (same_map eq E)
    same_map-equiv equiv_of_values = equiv (same_map-per (partial_equiv_from_equiv equiv_of_values)) (λ a. (same_map-decides a a).1 (λ q. option-refl (lookup (eq q) a)))
      where
        option-refl : (x : Option V) → option_eq E x x ≡ true
        option-refl None = refl
        option-refl (Some x) = equiv_of_values.refl x

  is_member-congr : (xs : List K) (q x : K) → eq q x ≡ true → is_member eq xs q ≡ is_member eq xs x
  is_member-congr [] q x same = refl
  is_member-congr (y ∷ xs) q x same = λ i. laws.congr q x y same i || is_member-congr xs q x same i

  -- an element that is in none of two lists
  is_member-outside : (xs more : List K) (q : K) → is_member eq (xs ++ more) q ≡ false → (is_member eq xs q ≡ false) × (is_member eq more q ≡ false)
  is_member-outside [] more q out = (refl, out)
  is_member-outside (x ∷ xs) more q out = next (is_member-outside xs more q) (eq q x) refl out
    where
      next : (is_member eq (xs ++ more) q ≡ false → (is_member eq xs q ≡ false) × (is_member eq more q ≡ false))
          → (b : Bool) → eq q x ≡ b → (b || is_member eq (xs ++ more) q) ≡ false → (is_member eq (x ∷ xs) q ≡ false) × (is_member eq more q ≡ false)
      next rest true same out = absurd (true≢false out)
      next rest false same out = (ap (λ b. b || is_member eq xs q) same ∙ (rest out).0, (rest out).1)

  -- two sets are the same exactly where each element is in both, or in neither
  pub same_set-decides : (a b : List K) → Decides (same_set eq a b) ((q : K) → is_member eq a q ≡ is_member eq b q)
  same_set-decides a b =
      let whole = list_all-decides (λ q. both_or_neither (is_member eq a q) (is_member eq b q))
      (λ q x same i. both_or_neither (is_member-congr a q x same i) (is_member-congr b q x same i))
      (a ++ b)
      (λ q out. let rest = is_member-outside a b q out in λ i. both_or_neither (rest.0 i) (rest.1 i)) in
      (λ same q. (alike (is_member eq a q) (is_member eq b q)).0 (whole.0 same q), λ each. whole.1 (λ q. (alike (is_member eq a q) (is_member eq b q)).1 (each q)))

  -- the test of sets is an equivalence
  pub same_set-equiv : IsEquivalence (same_set eq)
  same_set-equiv = record {
    refl = λ a. (same_set-decides a a).1 (λ q. refl);
    symm = λ a b. one_answer _ _ (same_set-decides a b) (λ same q. sym ((same_set-decides b a).0 same q), λ each. (same_set-decides b a).1 (λ q. sym (each q)));
    congr = λ a b c same. one_answer _ _ (same_set-decides a c) (λ other q. (same_set-decides a b).0 same q ∙ (same_set-decides b c).0 other q, λ each. (same_set-decides b c).1 (λ q. sym ((same_set-decides a b).0 same q) ∙ each q));
  }
