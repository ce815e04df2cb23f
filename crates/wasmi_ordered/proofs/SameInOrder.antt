-- Two maps, or two sets, whose keys ascend are equal entry by entry exactly where they are key by key.
-- for src/laws.rt
use Rattle.std.proofs.Common.{◌≡◌, Ordering, Less, Equal, Greater, Bool, true, false, cond, ◌&&◌, ◌||◌, List, [], ◌∷◌, Option, Some, None, refl, sym, ap, ◌∙◌, true≢false, subst}
use Rattle.std.specs.Bool.{Decides, one_answer}
use Rattle.std.specs.Cmp.{IsTotalOrder, eq_by_cmp_equiv, tied_itself, first_so, second_so}
use Rattle.std.specs.Cmp.Lexicographic.{pointwise}
use Rattle.std.specs.List.Sorted.{IsStrictlySortedBy}
use Rattle.std.specs.Map.{keys_of, lookup}
use Rattle.std.specs.Option.{option_eq}
use Rattle.std.specs.Prelude.{is_some}
use Rattle.std.specs.Set.{is_member}
use Rattle.std.specs.Ordering.{is_eq, eq_by_cmp, ordering_reverse}
use Rattle.std.proofs.lemmas.Map.{lookup-none}
use Rattle.std.proofs.lemmas.Map.Entries.{none_below_head, none_past_head, lookup_head}
use Rattle.std.proofs.lemmas.Map.Keys.{IsDistinct-from_sorted, sorted_tail}
use Rattle.wasmi_map_specs.specs.Same.{same_map, same_map-decides, same_set, same_set-decides}

module _ {K V : Type 0} {R : K → K → Ordering} (order : IsTotalOrder R) (F : V → V → Bool) where
  -- whether two maps have equal values under a key, or neither has one
  abbrev agree : List (K × V) → List (K × V) → K → Bool
  agree a b q = option_eq F (lookup (eq_by_cmp R q) a) (lookup (eq_by_cmp R q) b)

  abbrev same_entry : K × V → K × V → Bool
  same_entry x y = eq_by_cmp R x.0 y.0 && F x.1 y.1

  key_by_key : (a b : List (K × V)) → pointwise same_entry a b ≡ true → (q : K) → agree a b q ≡ true
  key_by_key [] [] same q = refl
  key_by_key [] (y ∷ b) same q = absurd (true≢false (sym same))
  key_by_key (x ∷ a) [] same q = absurd (true≢false (sym same))
  key_by_key (x ∷ a) (y ∷ b) same q =
      let entry = first_so (same_entry x y) (pointwise same_entry a b) same in
      let alike = (eq_by_cmp_equiv order).symm q x.0 ∙ (eq_by_cmp_equiv order).congr x.0 y.0 q (first_so (eq_by_cmp R x.0 y.0) (F x.1 y.1) entry) ∙ (eq_by_cmp_equiv order).symm y.0 q in
      next (second_so (eq_by_cmp R x.0 y.0) (F x.1 y.1) entry) (key_by_key a b (second_so (same_entry x y) (pointwise same_entry a b) same) q) (eq_by_cmp R q x.0) (eq_by_cmp R q y.0) alike
    where
      next : F x.1 y.1 ≡ true → agree a b q ≡ true → (at_x at_y : Bool) → at_x ≡ at_y
          → option_eq F (cond at_x (Some x.1) (lookup (eq_by_cmp R q) a)) (cond at_y (Some y.1) (lookup (eq_by_cmp R q) b)) ≡ true
      next value rest true true alike = value
      next value rest false false alike = rest
      next value rest true false alike = absurd (true≢false alike)
      next value rest false true alike = absurd (true≢false (sym alike))

  -- past the first entries, which have equal keys, no key is equal to them
  tails_agree : (x y : K × V) (a b : List (K × V)) → IsStrictlySortedBy R (keys_of (x ∷ a)) → IsStrictlySortedBy R (keys_of (y ∷ b)) → R x.0 y.0 ≡ Equal
      → ((q : K) → agree (x ∷ a) (y ∷ b) q ≡ true) → (q : K) → agree a b q ≡ true
  tails_agree x y a b up_a up_b level each q =
      let alike = (eq_by_cmp_equiv order).symm q x.0 ∙ (eq_by_cmp_equiv order).congr x.0 y.0 q (ap is_eq level) ∙ (eq_by_cmp_equiv order).symm y.0 q in
      next (eq_by_cmp R q x.0) (eq_by_cmp R q y.0) refl refl alike (each q)
    where
      past : (e : K × V) (es : List (K × V)) → IsStrictlySortedBy R (keys_of (e ∷ es)) → eq_by_cmp R q e.0 ≡ true → lookup (eq_by_cmp R q) es ≡ None
      past e es up at = lookup-none (eq_by_cmp R q) es (none_past_head (eq_by_cmp_equiv order) q e es (IsDistinct-from_sorted R (keys_of (e ∷ es)) up) at)

      next : (at_x at_y : Bool) → eq_by_cmp R q x.0 ≡ at_x → eq_by_cmp R q y.0 ≡ at_y → eq_by_cmp R q x.0 ≡ eq_by_cmp R q y.0
          → option_eq F (cond at_x (Some x.1) (lookup (eq_by_cmp R q) a)) (cond at_y (Some y.1) (lookup (eq_by_cmp R q) b)) ≡ true → agree a b q ≡ true
      next true true is_x is_y alike whole = λ i. option_eq F (past x a up_a is_x i) (past y b up_b is_y i)
      next false false is_x is_y alike whole = whole
      next true false is_x is_y alike whole = absurd (true≢false (sym is_x ∙ alike ∙ is_y))
      next false true is_x is_y alike whole = absurd (true≢false (sym is_y ∙ sym alike ∙ is_x))

  -- what stands under the first key of a list
  first_value : (x : K × V) (a : List (K × V)) (q : K) → R q x.0 ≡ Equal → lookup (eq_by_cmp R q) (x ∷ a) ≡ Some x.1
  first_value x a q level = lookup_head (eq_by_cmp R q) x a (ap is_eq level)

  below : (x y : K × V) (b : List (K × V)) → IsStrictlySortedBy R (keys_of (y ∷ b)) → R x.0 y.0 ≡ Less → lookup (eq_by_cmp R x.0) (y ∷ b) ≡ None
  below x y b up less = lookup-none (eq_by_cmp R x.0) (y ∷ b) (none_below_head order x.0 y b up less)

  entry_by_entry : (a b : List (K × V)) → IsStrictlySortedBy R (keys_of a) → IsStrictlySortedBy R (keys_of b) → ((q : K) → agree a b q ≡ true) → pointwise same_entry a b ≡ true
  entry_by_entry [] [] up_a up_b each = refl
  entry_by_entry [] (y ∷ b) up_a up_b each = absurd (true≢false (sym (each y.0) ∙ ap (option_eq F None) (first_value y b y.0 (tied_itself order y.0))))
  entry_by_entry (x ∷ a) [] up_a up_b each = absurd (true≢false (sym (each x.0) ∙ ap (λ there. option_eq F there None) (first_value x a x.0 (tied_itself order x.0))))
  entry_by_entry (x ∷ a) (y ∷ b) up_a up_b each =
      next (entry_by_entry a b (sorted_tail R x.0 (keys_of a) up_a) (sorted_tail R y.0 (keys_of b) up_b)) (R x.0 y.0) refl
    where
      next : (((q : K) → agree a b q ≡ true) → pointwise same_entry a b ≡ true) → (o : Ordering) → R x.0 y.0 ≡ o → ((is_eq o && F x.1 y.1) && pointwise same_entry a b) ≡ true
      next tails Less less = absurd (true≢false (sym (each x.0) ∙ λ i. option_eq F (first_value x a x.0 (tied_itself order x.0) i) (below x y b up_b less i)))
      next tails Equal level =
          let rest = tails (tails_agree x y a b up_a up_b level each) in
          let value : F x.1 y.1 ≡ true = sym (λ i. option_eq F (first_value x a x.0 (tied_itself order x.0) i) (first_value y b x.0 level i)) ∙ each x.0 in
          λ i. value i && rest i
      next tails Greater greater =
          let turned : R y.0 x.0 ≡ Less = order.antisymm y.0 x.0 ∙ ap ordering_reverse greater in
          absurd (true≢false (sym (each y.0) ∙ λ i. option_eq F (below y x a up_a turned i) (first_value y b y.0 (tied_itself order y.0) i)))

  pub equal_in_order : (a b : List (K × V)) → IsStrictlySortedBy R (keys_of a) → IsStrictlySortedBy R (keys_of b) → pointwise same_entry a b ≡ same_map (eq_by_cmp R) F a b
  equal_in_order a b up_a up_b =
      one_answer _ _
      (λ same. key_by_key a b same, entry_by_entry a b up_a up_b)
      (same_map-decides (eq_by_cmp_equiv order) F a b)

-- a set as the map that has one value under each element
module _ {K : Type 0} {R : K → K → Ordering} (order : IsTotalOrder R) where
  abbrev any_two : Bool → Bool → Bool
  any_two x y = true

  abbrev units : List K → List (K × Bool)
  units [] = []
  units (x ∷ xs) = (x, true) ∷ units xs

  keys_of-units : (xs : List K) → keys_of (units xs) ≡ xs
  keys_of-units [] = refl
  keys_of-units (x ∷ xs) = ap (λ ks. x ∷ ks) (keys_of-units xs)

  and-true : (b : Bool) → (b && true) ≡ b
  and-true true = refl
  and-true false = refl

  pointwise-units : (a b : List K) → pointwise (same_entry order any_two) (units a) (units b) ≡ pointwise (eq_by_cmp R) a b
  pointwise-units [] [] = refl
  pointwise-units [] (y ∷ b) = refl
  pointwise-units (x ∷ a) [] = refl
  pointwise-units (x ∷ a) (y ∷ b) = λ i. and-true (eq_by_cmp R x y) i && pointwise-units a b i

  is_some-units : (xs : List K) (q : K) → is_some (lookup (eq_by_cmp R q) (units xs)) ≡ is_member (eq_by_cmp R) xs q
  is_some-units [] q = refl
  is_some-units (x ∷ xs) q = next (is_some-units xs q) (eq_by_cmp R q x)
    where
      next : is_some (lookup (eq_by_cmp R q) (units xs)) ≡ is_member (eq_by_cmp R) xs q → (b : Bool)
          → is_some (cond b (Some true) (lookup (eq_by_cmp R q) (units xs))) ≡ (b || is_member (eq_by_cmp R) xs q)
      next rest true = refl
      next rest false = rest

  both : (x y : Option Bool) → Decides (option_eq any_two x y) (is_some x ≡ is_some y)
  both None None = (λ same. refl, λ same. refl)
  both None (Some y) = (λ same. same, λ same. same)
  both (Some x) None = (λ same. sym same, λ same. sym same)
  both (Some x) (Some y) = (λ same. refl, λ same. refl)

  pub equal_sets_in_order : (a b : List K) → IsStrictlySortedBy R a → IsStrictlySortedBy R b → pointwise (eq_by_cmp R) a b ≡ same_set (eq_by_cmp R) a b
  equal_sets_in_order a b up_a up_b =
      let equal = equal_in_order order any_two (units a) (units b) (subst (IsStrictlySortedBy R) (sym (keys_of-units a)) up_a) (subst (IsStrictlySortedBy R) (sym (keys_of-units b)) up_b) in
      let of_maps = same_map-decides (eq_by_cmp_equiv order) any_two (units a) (units b) in
      sym (pointwise-units a b) ∙ equal
      ∙ one_answer _ _ (
        λ same q. sym (is_some-units a q) ∙ (both _ _).0 (of_maps.0 same q) ∙ is_some-units b q,
        λ each. of_maps.1 (λ q. (both _ _).1 (is_some-units a q ∙ each q ∙ sym (is_some-units b q))),
      )
      (same_set-decides (eq_by_cmp_equiv order) a b)
