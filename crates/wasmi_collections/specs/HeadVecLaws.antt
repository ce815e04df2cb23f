-- The laws of the order of head vectors.
use Rattle.std.proofs.Common.{◌≡◌, ◌-◌, ◌<◌, Bool, false, ◌&&◌, List, [], ◌∷◌, ◌++◌, length, Option, Some, None, refl, sym, ap, subst, ◌∙◌, length-append, arith, Ordering, Less, Equal, Greater}
use Rattle.std.proofs.Math.Seq.{take-append_seam, get_or-append_seam}
use Rattle.std.proofs.Math.Bool.{and_assoc, and_comm, and-false, and-true}
use Rattle.std.proofs.lemmas.Option.{slice_get-get_or}
use Rattle.std.specs.Option.{option_eq, option_cmp, option_partial_cmp}
use Rattle.std.specs.Ordering.{partial_ordering_then, eq_by_cmp}
use Rattle.std.specs.Cmp.{IsPartialOrder, IsTotalOrder, Agrees, on_po, on_total, then_po, then_total, then_agrees, both_tied}
use Rattle.std.specs.Cmp.Derive.{alike_po}
use Rattle.std.specs.Cmp.Lexicographic.{pointwise, slice_cmp, slice_partial_cmp, lists_po, lists_total, lists_agrees, lists_ties, options_total}
use Rattle.wasmi_collections.specs.HeadVec.{last_item, before_last, head_cmp, head_partial_cmp}

then_tie : (p : Option Ordering) → partial_ordering_then p (Some Equal) ≡ p
then_tie None = refl
then_tie (Some Less) = refl
then_tie (Some Equal) = refl
then_tie (Some Greater) = refl

module _ {T : Type 0} where
  module _ (rest : List T) (x : T) where
    place_of_last : length (rest ++ x ∷ []) - 1 ≡ length rest
    place_of_last = omega (arith, length-append rest (x ∷ []))

    pub before_last-append : before_last (rest ++ x ∷ []) ≡ rest
    before_last-append = rw place_of_last (take-append_seam rest (x ∷ []))

    pub last_item-append : last_item (rest ++ x ∷ []) ≡ Some x
    last_item-append =
        let below : length rest < length (rest ++ x ∷ []) = omega (arith, length-append rest (x ∷ [])) in
        rw place_of_last (slice_get-get_or (rest ++ x ∷ []) (length rest) x below ∙ ap Some (get_or-append_seam rest x [] x))

  -- a list with an item has a last one
  with_last_of : (x : T) (xs : List T) → (rest : List T) × (last : T) × (x ∷ xs ≡ rest ++ last ∷ [])
  with_last_of x [] = ([], x, refl)
  with_last_of x (y ∷ ys) = let found = with_last_of y ys in (x ∷ found.0, found.1, ap (λ (items : List T). x ∷ items) found.2)

  module _ (E : T → T → Bool) where
    none_and_some : (items : List T) (x : T) → pointwise E [] (items ++ x ∷ []) ≡ false
    none_and_some [] x = refl
    none_and_some (y ∷ items) x = refl

    some_and_none : (items : List T) (x : T) → pointwise E (items ++ x ∷ []) [] ≡ false
    some_and_none [] x = refl
    some_and_none (y ∷ items) x = refl

    pointwise-append : (xs ys : List T) (x y : T) → pointwise E (xs ++ x ∷ []) (ys ++ y ∷ []) ≡ (E x y && pointwise E xs ys)
    pointwise-append [] [] x y = refl
    pointwise-append [] (b ∷ ys) x y = ap (λ t. E x b && t) (none_and_some ys y) ∙ (and-false (E x b) ∙ sym (and-false (E x y)))
    pointwise-append (a ∷ xs) [] x y = ap (λ t. E a y && t) (some_and_none xs x) ∙ (and-false (E a y) ∙ sym (and-false (E x y)))
    pointwise-append (a ∷ xs) (b ∷ ys) x y =
        let rest = pointwise E xs ys in
        ap (λ t. E a b && t) (pointwise-append xs ys x y) ∙ (sym (and_assoc (E a b) (E x y) rest) ∙ (ap (λ t. t && rest) (and_comm (E a b) (E x y)) ∙ and_assoc (E x y) (E a b) rest))

    abbrev by_last : List T → List T → Bool
    by_last xs ys = option_eq E (last_item xs) (last_item ys) && pointwise E (before_last xs) (before_last ys)

    with_items : (xs ys : List T) (x y : T) → pointwise E (xs ++ x ∷ []) (ys ++ y ∷ []) ≡ by_last (xs ++ x ∷ []) (ys ++ y ∷ [])
    with_items xs ys x y = rw (last_item-append xs x, last_item-append ys y, before_last-append xs x, before_last-append ys y) (pointwise-append xs ys x y)

    -- lists are equal where their last items are, and what stands before these
    pub pointwise-last : (xs ys : List T) → pointwise E xs ys ≡ by_last xs ys
    pointwise-last [] [] = refl
    pointwise-last [] (y ∷ ys) =
        let other = with_last_of y ys in
        subst (λ (items : List T). pointwise E [] items ≡ by_last [] items) (sym other.2) (rw (last_item-append other.0 other.1) (none_and_some other.0 other.1))
    pointwise-last (x ∷ xs) [] =
        let one = with_last_of x xs in
        subst (λ (items : List T). pointwise E items [] ≡ by_last items []) (sym one.2) (rw (last_item-append one.0 one.1) (some_and_none one.0 one.1))
    pointwise-last (x ∷ xs) (y ∷ ys) =
        let one = with_last_of x xs in let other = with_last_of y ys in
        subst (λ (items : List T). pointwise E items (y ∷ ys) ≡ by_last items (y ∷ ys)) (sym one.2) (subst (λ (items : List T). pointwise E (one.0 ++ one.1 ∷ []) items ≡ by_last (one.0 ++ one.1 ∷ []) items) (sym other.2) (with_items one.0 other.0 one.1 other.1))

  -- an optional item is compared as the list of it
  abbrev listed : Option T → List T
  listed None = []
  listed (Some x) = x ∷ []

  options_eq-listed : (E : T → T → Bool) (p q : Option T) → option_eq E p q ≡ pointwise E (listed p) (listed q)
  options_eq-listed E None None = refl
  options_eq-listed E None (Some y) = refl
  options_eq-listed E (Some x) None = refl
  options_eq-listed E (Some x) (Some y) = sym (and-true (E x y))

  options_partial_cmp-listed : (C : T → T → Option Ordering) (p q : Option T) → slice_partial_cmp C (listed p) (listed q) ≡ option_partial_cmp C p q
  options_partial_cmp-listed C None None = refl
  options_partial_cmp-listed C None (Some y) = refl
  options_partial_cmp-listed C (Some x) None = refl
  options_partial_cmp-listed C (Some x) (Some y) = then_tie (C x y)

  module _ {E : T → T → Bool} {C : T → T → Option Ordering} (o : IsPartialOrder E C) where
    options_po : IsPartialOrder (option_eq E) (option_partial_cmp C)
    options_po = alike_po (subst (IsPartialOrder (λ p q. pointwise E (listed p) (listed q))) (λ i p q. options_partial_cmp-listed C p q i) (on_po listed (lists_po o))) (options_eq-listed E)

    -- where two items are partially ordered, so are two lists
    pub head_po : IsPartialOrder (pointwise E) (head_partial_cmp C)
    head_po = alike_po (then_po (on_po last_item options_po) (on_po before_last (lists_po o))) (pointwise-last E)

  module _ {R : T → T → Ordering} where
    -- where they are totally ordered, so are two lists
    pub head_total : IsTotalOrder R → IsTotalOrder (head_cmp R)
    head_total o = then_total (on_total last_item (options_total o)) (on_total before_last (lists_total o))

    module _ {C : T → T → Option Ordering} (a : Agrees C R) where
      options_agrees : Agrees (option_partial_cmp C) (option_cmp R)
      options_agrees None None = refl
      options_agrees None (Some y) = refl
      options_agrees (Some x) None = refl
      options_agrees (Some x) (Some y) = a x y

      -- where the two comparisons of items agree, so do those of lists
      pub head_agrees : Agrees (head_partial_cmp C) (head_cmp R)
      head_agrees = then_agrees (λ xs ys. options_agrees (last_item xs) (last_item ys)) (λ xs ys. lists_agrees a (before_last xs) (before_last ys))

  module _ {E : T → T → Bool} (R : T → T → Ordering) (t : (x y : T) → E x y ≡ eq_by_cmp R x y) where
    options_ties : (p q : Option T) → option_eq E p q ≡ eq_by_cmp (option_cmp R) p q
    options_ties None None = refl
    options_ties None (Some y) = refl
    options_ties (Some x) None = refl
    options_ties (Some x) (Some y) = t x y

    -- and where items are equal exactly if neither is less, so are lists
    pub head_ties : (xs ys : List T) → pointwise E xs ys ≡ eq_by_cmp (head_cmp R) xs ys
    head_ties xs ys =
        pointwise-last E xs ys
        ∙ both_tied _ _ (option_cmp R (last_item xs) (last_item ys)) (slice_cmp R (before_last xs) (before_last ys)) (options_ties (last_item xs) (last_item ys)) (lists_ties R t (before_last xs) (before_last ys))
