-- Facts on the components of a component vector beside their keys.
-- for src/component_vec.rt, src/component_vec/
use Rattle.std.proofs.Common.{◌≡◌, ℕ, suc, ◌+◌, ◌-◌, ◌<◌, ◌≤◌, Bool, true, false, cond, nat_lt, is_some, List, [], ◌∷◌, ◌++◌, count_by, length, take, Option, None, Some, refl, sym, ◌∙◌, ap, arith, append-nil, length-append}
use Rattle.std.proofs.lemmas.Bool.{le-ltb, ltb-true, ltb-false}
use Rattle.std.proofs.lemmas.List.{append_assoc, length-take}
use Rattle.std.proofs.lemmas.List.Sums.{count_by-le-length, sum_by-cons}
use lib.Seq.{take-nil}
use Rattle.wasmi_arena.specs.Keys.{Keys}
use Rattle.wasmi_dense.specs.ComponentEntries.{component_under, components_from}

module _ {K T : Type 0} (keys : Keys K) where
  -- the last place comes last, under the number behind the others
  pub components_from_last : (number : ℕ) (slots : List (Option T)) (slot : Option T) → components_from keys number (slots ++ slot ∷ []) ≡ components_from keys number slots ++ component_under keys (number + length slots) slot
  components_from_last number [] slot = append-nil (component_under keys number slot) ∙ ap (λ n. component_under keys n slot) (omega arith)
  components_from_last number (x ∷ slots) slot =
      ap (λ (rest : List (K × T)). component_under keys number x ++ rest) (components_from_last (number + 1) slots slot ∙ ap (λ n. components_from keys (number + 1) slots ++ component_under keys n slot) (omega arith))
      ∙ sym (append_assoc (component_under keys number x) (components_from keys (number + 1) slots) (component_under keys (number + length (x ∷ slots)) slot))

  -- a number without a key shows no component
  pub component_under-no_key : (number : ℕ) (slot : Option T) → ¬ (number < keys.count) → component_under keys number slot ≡ []
  component_under-no_key number None none = refl
  component_under-no_key number (Some x) none = ap (λ b. cond b ((keys.key number, x) ∷ []) []) (le-ltb number keys.count (omega (arith, none)))

  -- a last place that shows nothing may be passed over
  pub components_from_passed : (number : ℕ) (old new : List (Option T)) (slot : Option T) → old ≡ new ++ slot ∷ [] → component_under keys (number + length new) slot ≡ []
      → (components_from keys number new ≡ components_from keys number old) × (length new ≤ length old)
  components_from_passed number old new slot is nothing = (
    sym (ap (components_from keys number) is ∙ components_from_last number new slot ∙ ap (λ (es : List (K × T)). components_from keys number new ++ es) nothing ∙ append-nil (components_from keys number new)),
    omega (arith, ap length is, length-append new (slot ∷ [])),
  )

  one_under : (number : ℕ) (slot : Option T) → nat_lt number keys.count ≡ true → length (component_under keys number slot) ≡ cond (is_some slot) 1 0
  one_under number None has = refl
  one_under number (Some x) has = ap (λ b. length {A = K × T} (cond b ((keys.key number, x) ∷ []) [])) has

  none_under : (number : ℕ) (slot : Option T) → nat_lt number keys.count ≡ false → length (component_under keys number slot) ≡ 0
  none_under number None none = refl
  none_under number (Some x) none = ap (λ b. length {A = K × T} (cond b ((keys.key number, x) ∷ []) [])) none

  -- there is one entry for each component whose number has a key
  pub length-components_from : (number : ℕ) (slots : List (Option T)) → length (components_from keys number slots) ≡ count_by is_some (take (keys.count - number) slots)
  length-components_from number [] = sym (ap (count_by is_some) (take-nil (keys.count - number)))
  length-components_from number (slot ∷ slots) = next (nat_lt number keys.count) refl (length-components_from (number + 1) slots)
    where
      next : (b : Bool) → nat_lt number keys.count ≡ b → length (components_from keys (number + 1) slots) ≡ count_by is_some (take (keys.count - (number + 1)) slots)
          → length (component_under keys number slot ++ components_from keys (number + 1) slots) ≡ count_by is_some (take (keys.count - number) (slot ∷ slots))
      next true has rest =
          let low = ltb-true number keys.count has in let more : keys.count - number ≡ suc (keys.count - (number + 1)) = omega (arith, low) in
          length-append (component_under keys number slot) (components_from keys (number + 1) slots)
          ∙ (λ i. one_under number slot has i + rest i)
          ∙ sym (ap (λ n. count_by is_some (take n (slot ∷ slots))) more ∙ sum_by-cons (λ (s : Option T). cond (is_some s) 1 0) slot (take (keys.count - (number + 1)) slots))
      next false none rest =
          let low = ltb-false number keys.count none in let over : keys.count - number ≡ 0 = omega (arith, low) in let over_next : keys.count - (number + 1) ≡ 0 = omega (arith, low) in
          length-append (component_under keys number slot) (components_from keys (number + 1) slots)
          ∙ (λ i. none_under number slot none i + (rest ∙ ap (λ n. count_by is_some (take n slots)) over_next) i)
          ∙ sym (ap (λ n. count_by is_some (take n (slot ∷ slots))) over)

  -- and so there are no more than places
  pub components-le-extent : (slots : List (Option T)) → length (components_from keys 0 slots) ≤ length slots
  components-le-extent slots =
      let counted = length-components_from 0 slots in let few = count_by-le-length is_some (take (keys.count - 0) slots) in let cut = length-take (keys.count - 0) slots in
      omega (arith, counted, few, cut)
