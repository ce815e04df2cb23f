-- The laws of the length order.
use Rattle.std.proofs.Common.{◌≡◌, ℕ, Bool, true, false, ◌&&◌, List, length, nat_eq, Some, refl, sym, ◌∙◌, eq-eqb}
use Rattle.std.specs.Ordering.{nat_cmp, eq_by_cmp}
use Rattle.std.specs.Cmp.{IsPartialEquivalence, IsPartialOrder, IsTotalOrder, nat_cmp_total, on_total, then_total, partial_equiv_from_equiv, both_tied, po, unsigned_ties}
use Rattle.std.specs.Cmp.Lexicographic.{pointwise, as_long, slice_cmp, nat_list_eq_equiv, nat_list_cmp_total, texts_ties}
use Rattle.wasmi_interner.specs.LenOrder.{len_cmp}

pub len_cmp_total : IsTotalOrder len_cmp
len_cmp_total = then_total (on_total length nat_cmp_total) nat_list_cmp_total

and_second : (b c : Bool) → (c ≡ true → b ≡ true) → c ≡ (b && c)
and_second true c h = refl
and_second false true h = sym (h refl)
and_second false false h = refl

-- texts are equal where the order does not tell them apart
pub len_ties : (x y : List ℕ) → pointwise nat_eq x y ≡ eq_by_cmp len_cmp x y
len_ties x y =
    and_second (nat_eq (length x) (length y)) (pointwise nat_eq x y) (λ e. eq-eqb _ _ (as_long nat_eq x y e))
    ∙ both_tied _ _ (nat_cmp (length x) (length y)) (slice_cmp nat_cmp x y) (unsigned_ties (length x) (length y)) (texts_ties x y)

pub texts_per : IsPartialEquivalence (pointwise nat_eq)
texts_per = partial_equiv_from_equiv nat_list_eq_equiv

pub len_po : IsPartialOrder (pointwise nat_eq) (λ x y. Some (len_cmp x y))
len_po = po len_cmp_total len_ties
