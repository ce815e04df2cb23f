-- Facts on the last item of a list, and what stands before it.
-- for src/head_vec.rt
use Rattle.std.proofs.Common.{inl, ◌≡◌, ◌≢◌, Ordering, Less, Equal, Greater, ◌⊎◌, Bool, ◌&&◌, List, [], ◌∷◌, ◌++◌, Option, Some, None, refl, ap, sym, ◌∙◌}
use Rattle.std.specs.List.{AllZip}
use Rattle.std.specs.Option.{option_eq, option_cmp, option_partial_cmp, option_to_list, IfNone}
use Rattle.std.specs.Ordering.{ordering_then, partial_ordering_then}
use Rattle.std.specs.Cmp.Lexicographic.{pointwise, slice_cmp, slice_partial_cmp}
use Rattle.wasmi_collections.specs.HeadVec.{last_item, before_last, with_last, head_cmp, head_partial_cmp}
use Rattle.wasmi_collections.specs.HeadVecLaws.{before_last-append, last_item-append, pointwise-last}

module _ {T : Type 0} where
  -- another last item after the same rest
  pub with_last-append : (rest : List T) (x last : T) → rest ++ last ∷ [] ≡ with_last (rest ++ x ∷ []) last
  with_last-append rest x last = ap (λ items. items ++ last ∷ []) (sym (before_last-append rest x))

  -- a list in two fields, the last item and what stands before it
  pub last_item-parts : (head : Option T) (rest : List T) → IfNone head (rest ≡ []) → last_item (rest ++ option_to_list head) ≡ head
  last_item-parts None rest empty = rw empty refl
  last_item-parts (Some x) rest empty = last_item-append rest x

  pub before_last-parts : (head : Option T) (rest : List T) → IfNone head (rest ≡ []) → before_last (rest ++ option_to_list head) ≡ rest
  before_last-parts None rest empty = rw empty refl
  before_last-parts (Some x) rest empty = before_last-append rest x

  -- so two such lists are compared field by field
  module _ (head other : Option T) (rest others : List T) (empty : IfNone head (rest ≡ [])) (empty_too : IfNone other (others ≡ [])) where
    pub pointwise-parts : (E : T → T → Bool) → pointwise E (rest ++ option_to_list head) (others ++ option_to_list other) ≡ (option_eq E head other && pointwise E rest others)
    pointwise-parts E =
        pointwise-last E (rest ++ option_to_list head) (others ++ option_to_list other)
        ∙ rw (last_item-parts head rest empty, last_item-parts other others empty_too, before_last-parts head rest empty, before_last-parts other others empty_too) refl

    pub head_cmp-parts : (R : T → T → Ordering) → head_cmp R (rest ++ option_to_list head) (others ++ option_to_list other) ≡ ordering_then (option_cmp R head other) (slice_cmp R rest others)
    head_cmp-parts R = rw (last_item-parts head rest empty, last_item-parts other others empty_too, before_last-parts head rest empty, before_last-parts other others empty_too) refl

    pub head_partial_cmp-parts : (C : T → T → Option Ordering) → head_partial_cmp C (rest ++ option_to_list head) (others ++ option_to_list other) ≡ partial_ordering_then (option_partial_cmp C head other) (slice_partial_cmp C rest others)
    head_partial_cmp-parts C = rw (last_item-parts head rest empty, last_item-parts other others empty_too, before_last-parts head rest empty, before_last-parts other others empty_too) refl

  -- what holds of two lists, place by place, and of two items, holds of the lists with these
  pub AllZip-append : (R : T → T → Type 0) (xs ys : List T) (x y : T) → AllZip R xs ys → R x y → AllZip R (xs ++ x ∷ []) (ys ++ y ∷ [])
  AllZip-append R [] [] x y all last = (last, tt)
  AllZip-append R [] (b ∷ ys) x y all last = absurd all
  AllZip-append R (a ∷ xs) [] x y all last = absurd all
  AllZip-append R (a ∷ xs) (b ∷ ys) x y all last = (all.0, AllZip-append R xs ys x y all.1 last)

-- the first answer stands where it is no tie
pub then-apart : (first second : Ordering) → first ≢ Equal → ordering_then first second ≡ first
then-apart Less second apart = refl
then-apart Equal second apart = absurd (apart refl)
then-apart Greater second apart = refl

pub some_then-apart : (first : Ordering) (second : Option Ordering) → first ≢ Equal → partial_ordering_then (Some first) second ≡ Some first
some_then-apart Less second apart = refl
some_then-apart Equal second apart = absurd (apart refl)
some_then-apart Greater second apart = refl

module _ {N W V : Type 0} where
  -- a loan's name, and what the lender is after it, by what was written last
  abbrev pub lent : N → (W → V) → (N × (W → V)) ⊎ V
  lent name left = inl (name, left)

  pub lent_alike : {name : N} {left right : W → V} → ((last : W) → left last ≡ right last) → lent name left ≡ lent name right
  lent_alike {name} {left} {right} alike = λ i. lent name (λ last. alike last i)
