-- Facts on a loan that is cut.
use Rattle.std.proofs.Common.{◌≡◌, ℕ, ◌+◌, ◌-◌, ◌<◌, List, [], ◌∷◌, ◌++◌, length, map, Option, Some, None, refl, sym, ◌∙◌, ap, subst, arith, length-append, append-nil}
use Rattle.std.proofs.lemmas.List.{nil_from_length, map-append}
use Rattle.wasmi_arena.specs.Bucket.{Bucket}
use Rattle.wasmi_arena.specs.IterMut.{left}
use Rattle.wasmi_arena.specs.inner.LoanParts.{IsCut, IsLent, parts_of}
use Rattle.wasmi_arena.specs.inner.Table.{items_of, items_in, AreFilled}
use Rattle.wasmi_arena.specs.declared.raw.loan.ItemsLoan.{ItemsLoan}

module _ {T : Type 0} where
  AreFilled-front : (front back : List (Option (Bucket T))) → AreFilled (front ++ back) → AreFilled front
  AreFilled-front [] back filled = tt
  AreFilled-front (None ∷ front) back filled = filled
  AreFilled-front (Some bucket ∷ front) back filled = (filled.0, AreFilled-front front back filled.1)

  AreFilled-back : (front back : List (Option (Bucket T))) → AreFilled (front ++ back) → AreFilled back
  AreFilled-back [] back filled = filled
  AreFilled-back (None ∷ front) back filled = absurd filled
  AreFilled-back (Some bucket ∷ front) back filled = AreFilled-back front back filled.1

  -- the items of one bucket
  one_part : (buckets : List (Option (Bucket T))) → length buckets ≡ 1 → AreFilled buckets → map items_in buckets ≡ items_of buckets ∷ []
  one_part [] one filled = absurd (omega arith)
  one_part (None ∷ buckets) one filled = absurd filled
  one_part (Some bucket ∷ []) one filled = ap (λ (xs : List T). xs ∷ []) (sym (append-nil bucket.items))
  one_part (Some bucket ∷ next ∷ buckets) one filled = absurd (omega arith)

-- nothing is left of no buckets
pub none_left : {T A : Type 0} (found : Option (ItemsLoan T A)) {count : ℕ} → IsLent found count → count ≡ 0 → left (parts_of found) ≡ []
none_left None lent none = refl
none_left (Some loan) lent none = ap (map items_in) (nil_from_length loan.buckets (lent.0 ∙ none))

-- what is lent, where it is found and cut
module _ {T A : Type 0} (found : Option (ItemsLoan T A)) {loan front back : ItemsLoan T A} (count : ℕ) {at : ℕ} (lent : IsLent found count) (is : found ≡ Some loan) (cut : IsCut loan front back at) where
  whole : IsLent (Some loan) count
  whole = subst (λ (l : Option (ItemsLoan T A)). IsLent l count) is lent

  both : AreFilled (front.buckets ++ back.buckets)
  both = subst AreFilled cut.buckets whole.1

  counted : length front.buckets + length back.buckets ≡ count
  counted = sym (length-append front.buckets back.buckets) ∙ (ap length (sym cut.buckets) ∙ whole.0)

  parts : left (parts_of found) ≡ map items_in front.buckets ++ map items_in back.buckets
  parts = ap (λ (l : Option (ItemsLoan T A)). left (parts_of l)) is ∙ (ap (map items_in) cut.buckets ∙ map-append items_in front.buckets back.buckets)

  pub front_filled : AreFilled front.buckets
  front_filled = AreFilled-front front.buckets back.buckets both

  pub back_filled : AreFilled back.buckets
  back_filled = AreFilled-back front.buckets back.buckets both

  pub front_left : at ≡ count - 1 → (length front.buckets ≡ count - 1) × AreFilled front.buckets
  front_left last = (cut.counted ∙ last, front_filled)

  pub back_left : at ≡ 1 → (length back.buckets ≡ count - 1) × AreFilled back.buckets
  back_left first = (omega (arith, counted, cut.counted, first), back_filled)

  pub back_one : 0 < count → at ≡ count - 1 → length back.buckets ≡ 1
  back_one some last = omega (arith, counted, cut.counted, last)

  pub front_first : at ≡ 1 → left (parts_of found) ≡ items_of front.buckets ∷ map items_in back.buckets
  front_first first = parts ∙ ap (λ (ps : List (List T)). ps ++ map items_in back.buckets) (one_part front.buckets (cut.counted ∙ first) front_filled)

  pub back_last : 0 < count → at ≡ count - 1 → left (parts_of found) ≡ map items_in front.buckets ++ items_of back.buckets ∷ []
  back_last some last = parts ∙ ap (λ (ps : List (List T)). map items_in front.buckets ++ ps) (one_part back.buckets (back_one some last) back_filled)
