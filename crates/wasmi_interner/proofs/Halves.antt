-- Facts on lists that can be searched by halves.
-- for src/probe.rt
use Rattle.std.proofs.Common.{◌≡◌, ℕ, zero, suc, ◌+◌, ◌-◌, ◌*◌, ◌<◌, ◌≤◌, ◌⊎◌, Bool, true, false, List, [], ◌∷◌, ◌++◌, length, replicate, Option, Some, slice_get, refl, ap, sym, subst, ◌∙◌, inl, inr, arith}
use Rattle.std.proofs.Math.Nat.{suc-mul}
use Rattle.std.proofs.lemmas.Bool.{cases_lt}
use Rattle.std.proofs.lemmas.Nat.{row_fits}
use Rattle.std.proofs.lemmas.Option.{same_Some}
use Rattle.std.specs.declared.cmp.Ordering.{Ordering}
use Rattle.std.specs.declared.cmp.Ordering.TheVariants.{Less, Greater}
use Rattle.wasmi_interner.specs.Search.{sorted_orders, IsSearchable}
use Rattle.wasmi_interner.specs.inner.Search.{IsInOrder, IsNarrowed}

slice_get-replicate : {A : Type 0} → (n i : ℕ) (x : A) → i < length (replicate n x) → slice_get (replicate n x) i ≡ Some x
slice_get-replicate zero i x h = absurd (omega arith)
slice_get-replicate (suc n) zero x h = refl
slice_get-replicate (suc n) (suc i) x h = slice_get-replicate n i x (omega arith)

-- of two items the earlier is `Less` or the later `Greater`
sorted_pair :
    (less : ℕ) (is_there : Bool) (greater i j : ℕ) → i < j → j < length (sorted_orders less is_there greater)
    → (slice_get (sorted_orders less is_there greater) i ≡ Some Less) ⊎ (slice_get (sorted_orders less is_there greater) j ≡ Some Greater)
sorted_pair (suc less) is_there greater zero j before within = inl refl
sorted_pair (suc less) is_there greater (suc i) zero before within = absurd (omega arith)
sorted_pair (suc less) is_there greater (suc i) (suc j) before within = sorted_pair less is_there greater i j (omega arith) (omega arith)
sorted_pair zero true greater i zero before within = absurd (omega arith)
sorted_pair zero true greater i (suc j) before within = inr (slice_get-replicate greater j Greater (omega arith))
sorted_pair zero false greater i j before within = inr (slice_get-replicate greater j Greater within)

-- the orders of a sorted list
pub in_order : (orders : List Ordering) → IsSearchable orders → IsInOrder (slice_get orders) (length orders)
in_order orders s i j before within =
    let P : List Ordering → Type 0 = λ xs. j < length xs → (slice_get xs i ≡ Some Less) ⊎ (slice_get xs j ≡ Some Greater) in
    subst P (sym s.orders_are) (sorted_pair s.less s.is_there s.greater i j before) within

module _ (order : ℕ → Option Ordering) (count : ℕ) (ordered : IsInOrder order count) where
  -- all before a `Less` are `Less`
  less_before : (j : ℕ) → j < count → order j ≡ Some Less → (i : ℕ) → i < j + 1 → order i ≡ Some Less
  less_before j within at i before = elim (cases_lt i j) [
    | inl less ↦ elim (ordered i j less within) [
      | inl here ↦ here
      | inr there ↦ cc
    ]
    | inr more ↦ let same : i ≡ j = omega arith in rw same at
  ]

  -- all after a `Greater` are `Greater`
  greater_after : (i : ℕ) → order i ≡ Some Greater → (j : ℕ) → i ≤ j → j < count → order j ≡ Some Greater
  greater_after i at j after within = elim (cases_lt i j) [
    | inl less ↦ elim (ordered i j less within) [
      | inl here ↦ cc
      | inr there ↦ there
    ]
    | inr more ↦ let same : j ≡ i = omega arith in rw same at
  ]

  pub narrowed_low :
      (low high middle next end : ℕ) → IsNarrowed order count low high → middle < high
      → next ≤ middle + 1 → next ≤ end → end ≡ high → order middle ≡ Some Less → IsNarrowed order count next end
  narrowed_low low high middle next end narrowed h small ends same at = record {
    ends = ends;
    within = omega (arith, same, narrowed.within);
    before = λ i less. less_before middle (let within = narrowed.within in omega arith) at i (omega arith);
    after = λ i more. narrowed.after i (omega (arith, same, more));
  }

  pub narrowed_high :
      (low high middle next end : ℕ) → IsNarrowed order count low high → low ≤ middle → middle < high
      → next ≡ low → end ≡ middle → order middle ≡ Some Greater → IsNarrowed order count next end
  narrowed_high low high middle next end narrowed l h here same at = record {
    ends = omega (arith, l, here, same);
    within = let within = narrowed.within in omega (arith, same);
    before = λ i less. narrowed.before i (omega (arith, here, less));
    after = λ i more. greater_after middle at i (omega (arith, same, more));
  }

  -- so many places from one on
  module _ (start len : ℕ) (part : ℕ → Option Ordering) (same : (i : ℕ) → i < len → part i ≡ order (start + i)) (within : start + len ≤ count) where
    pub part_in_order : IsInOrder part len
    part_in_order i j before last = elim (ordered (start + i) (start + j) (omega (arith, before)) (omega (arith, last, within))) [
      | inl here ↦ inl (same i (omega (arith, before, last)) ∙ here)
      | inr there ↦ inr (same j last ∙ there)
    ]

    -- what belongs at one of them belongs there
    pub part_narrowed : (place : ℕ) → IsNarrowed order count start (start + len) → IsNarrowed part len place place → IsNarrowed order count (start + place) (start + place)
    part_narrowed place whole there = record {
      ends = omega arith;
      within = omega (arith, there.within, within);
      before = λ i less. elim (cases_lt i start) [
        | inl sooner ↦ whole.before i sooner
        | inr later ↦ let at : start + (i - start) ≡ i = omega (arith, later) in
            rw (← at) (sym (same (i - start) (omega (arith, less, later, there.within))) ∙ there.before (i - start) (omega (arith, less, later)))
      ];
      after = λ i more last. elim (cases_lt i (start + len)) [
        | inl sooner ↦ let at : start + (i - start) ≡ i = omega (arith, more) in
            rw (← at) (sym (same (i - start) (omega (arith, sooner, more))) ∙ there.after (i - start) (omega (arith, more)) (omega (arith, sooner, more)))
        | inr later ↦ whole.after i later last
      ];
    }

  -- the last places of so many blocks of one width, which are all in front of the rest
  module _ (width full : ℕ) (some : 0 < width) (within : full * width ≤ count) where
    abbrev top : ℕ → ℕ
    top number = number * width + (width - 1)

    top_within : (number : ℕ) → number < full → top number < count
    top_within number below = omega (arith, row_fits number width full width below (omega arith), some, within)

    pub tops_in_order : IsInOrder (λ number. order (top number)) full
    tops_in_order i j before last =
        ordered (top i) (top j) (omega (arith, row_fits i width j width before (omega arith), some)) (top_within j last)

    before_tops : (number place : ℕ) → IsNarrowed (λ number. order (top number)) full number place → (i : ℕ) → i < number * width → order i ≡ Some Less
    before_tops zero place tops i less = absurd (omega (arith, less))
    before_tops (suc number) place tops i less =
        less_before (top number) (top_within number (omega (arith, tops.ends, tops.within))) (tops.before number (omega arith)) i (omega (arith, less, some, suc-mul number width))

    -- what belongs before one of them belongs in its block
    pub in_block : (number : ℕ) → number < full → IsNarrowed (λ number. order (top number)) full number number → IsNarrowed order count (number * width) (number * width + (width - 1))
    in_block number below tops = record {
      ends = omega arith;
      within = omega (arith, top_within number below);
      before = before_tops number number tops;
      after = greater_after (top number) (tops.after number (omega arith) below);
    }

    -- and behind all of them in the last places, as many as in front of each
    pub behind_tops : (start : ℕ) → 0 < full → count < full * width + width → start + (width - 1) ≡ count → IsNarrowed (λ number. order (top number)) full full full → IsNarrowed order count start (start + (width - 1))
    behind_tops start there few end tops = record {
      ends = omega arith;
      within = omega (arith, end);
      before = λ i less. before_tops full full tops i (omega (arith, less, end, few));
      after = λ i more last. absurd (omega (arith, more, last, end));
    }

all_greater :
    (orders : List Ordering) → ((i : ℕ) → i < length orders → slice_get orders i ≡ Some Greater)
    → orders ≡ replicate (length orders) Greater
all_greater [] each = refl
all_greater (x ∷ xs) each =
    let first : x ≡ Greater = same_Some _ _ (each 0 (omega arith)) in
    let rest = all_greater xs (λ i h. each (suc i) (omega arith)) in
    rw (first) (ap (λ (l : List Ordering). Greater ∷ l) rest)

-- all before `low` are `Less`, and all from it on `Greater`
narrowed_to_none :
    (low : ℕ) (orders : List Ordering) → low ≤ length orders → ((i : ℕ) → i < low → slice_get orders i ≡ Some Less)
    → ((i : ℕ) → low ≤ i → i < length orders → slice_get orders i ≡ Some Greater)
    → (greater : ℕ) × (orders ≡ replicate low Less ++ replicate greater Greater)
narrowed_to_none zero orders h before after = (length orders, all_greater orders (λ i within. after i (omega arith) within))
narrowed_to_none (suc low) [] h before after = absurd (omega arith)
narrowed_to_none (suc low) (x ∷ xs) h before after =
    let first : x ≡ Less = same_Some _ _ (before 0 (omega arith)) in
    let rest = narrowed_to_none low xs (omega arith) (λ i less. before (suc i) (omega arith)) (λ i more within. after (suc i) (omega arith) (omega arith)) in
    (rest.0, rw first (ap (λ (l : List Ordering). Less ∷ l) rest.1))

-- what belongs at a place has so many items before it
pub none_left : (orders : List Ordering) (low high : ℕ) → low ≡ high → IsNarrowed (slice_get orders) (length orders) low high
    → (greater : ℕ) × (orders ≡ replicate low Less ++ replicate greater Greater)
none_left orders low high same left =
    narrowed_to_none low orders (omega (arith, left.ends, left.within)) left.before (λ i more. left.after i (omega (arith, more, same)))
