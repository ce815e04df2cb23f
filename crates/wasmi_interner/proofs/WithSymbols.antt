-- Facts on texts beside their symbols.
-- for src/iter.rt, src/string_interner.rt
use Rattle.std.proofs.Common.{◌≡◌, ℕ, suc, ◌+◌, ◌-◌, ◌^◌, ◌<◌, ◌≤◌, List, [], ◌∷◌, ◌++◌, length, take, drop, get_or, slice_get, slice_range, Some, ap, ◌∙◌, arith}
use Rattle.std.proofs.lemmas.List.{drop_more, get_or-drop, length-drop, length-take-le, take_all, take_more}
use Rattle.std.proofs.lemmas.Option.{get_or_from_slice_get, slice_get_within}
use Rattle.wasmi_arena.specs.Keys.{own_keys}
use Rattle.wasmi_arena.proofs.Entries.{entries_from_last, length-entries_from}
use Rattle.wasmi_interner.specs.Interner.{with_symbols, with_symbols_from}

-- there is one symbol for each text
pub length-with_symbols_from : (from : ℕ) (texts : List (List ℕ)) → length (with_symbols_from from texts) ≡ length texts
length-with_symbols_from from texts = length-entries_from (own_keys (2 ^ 32)) from texts

-- all texts are the part from 0 on and below their number
pub symbols_of_all : (texts : List (List ℕ)) (end : ℕ) → end ≡ length texts → with_symbols_from 0 (slice_range texts 0 end) ≡ with_symbols texts
symbols_of_all texts end all = ap (with_symbols_from 0) (take_all (end - 0) texts (omega (arith, all)))

-- the part has a symbol for each number
pub symbols_left : (texts : List (List ℕ)) (from end : ℕ) → from ≤ end → end ≤ length texts → from + length (with_symbols_from from (slice_range texts from end)) ≡ end
symbols_left texts from end le within =
    let rest : end - from ≤ length (drop from texts) = omega (arith, le, within, length-drop from texts) in
    omega (arith, le, length-with_symbols_from from (slice_range texts from end), length-take-le (end - from) (drop from texts) rest)

module _ (texts : List (List ℕ)) (from end : ℕ) (text : List ℕ) (some : from < end) where
  -- the first of the texts below `end`, and those behind it
  pub with_symbols_first : slice_get texts from ≡ Some text → with_symbols_from from (slice_range texts from end) ≡ (from, text) ∷ with_symbols_from (from + 1) (slice_range texts (from + 1) end)
  with_symbols_first at =
      let more : end - from ≡ suc (end - (from + 1)) = omega (arith, some) in
      let cut = drop_more texts from text (slice_get_within texts from text at) ∙ (λ i. get_or_from_slice_get texts from text text at i ∷ drop (from + 1) texts) in
      ap (with_symbols_from from) ((λ i. take (more i) (cut i)))

  -- the last of them, and those before it
  pub with_symbols_last : end ≤ length texts → slice_get texts (end - 1) ≡ Some text → with_symbols_from from (slice_range texts from end) ≡ with_symbols_from from (slice_range texts from (end - 1)) ++ (end - 1, text) ∷ []
  with_symbols_last within at =
      let n = end - 1 - from in
      let rest = drop from texts in
      let more : end - from ≡ n + 1 = omega (arith, some) in
      let place : from + n ≡ end - 1 = omega (arith, some) in
      let read : get_or rest n text ≡ text = get_or-drop from texts n text ∙ (ap (λ k. get_or texts k text) place ∙ get_or_from_slice_get texts (end - 1) text text at) in
      let cut : slice_range texts from end ≡ slice_range texts from (end - 1) ++ text ∷ [] =
      ap (λ k. take k rest) more ∙ (take_more rest n text (omega (arith, some, within, length-drop from texts)) ∙ ap (λ last. take n rest ++ last ∷ []) read) in
      let len : from + length (slice_range texts from (end - 1)) ≡ end - 1 =
      omega (arith, length-with_symbols_from from (slice_range texts from (end - 1)), symbols_left texts from (end - 1) (omega (arith, some)) (omega (arith, within))) in
      ap (with_symbols_from from) cut
      ∙ (entries_from_last (own_keys (2 ^ 32)) from (slice_range texts from (end - 1)) text
      ∙ ap (λ k. with_symbols_from from (slice_range texts from (end - 1)) ++ (k, text) ∷ []) len)
