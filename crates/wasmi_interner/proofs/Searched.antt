-- Among distinct texts, symbols are searched as texts are.
-- for src/laws.rt
use Rattle.std.proofs.Common.{◌≡◌, ℕ, ◌+◌, ◌<◌, ◌==◌, true, false, cond, List, [], ◌∷◌, length, map, Some, None, get_or, slice_get, refl, sym, ap, subst, ◌∙◌}
use Rattle.std.specs.List.{All, position, position_from}
use Rattle.std.specs.Str.{bytes_eq}
use Rattle.std.proofs.lemmas.Bool.{false_from_ne_true}
use Rattle.std.proofs.lemmas.Bool.Decides.{Decides-eqb, same_from_decides}
use Rattle.std.proofs.lemmas.Iterator.Adapters.{position_from-zero}
use Rattle.std.proofs.lemmas.List.Elements.{All-head, All-tail}
use Rattle.std.proofs.lemmas.Option.{get_or_from_slice_get, same_Some, slice_get-get_or}
use Rattle.std.proofs.lemmas.Slice.Eq.{bytes_eq-Decides}
use Rattle.wasmi_interner.specs.Interner.{symbol_of, AreDistinctTexts}
use Rattle.wasmi_interner.proofs.Symbols.{nowhere, symbol_of-at, symbol_of-Some}

module _ (texts : List (List ℕ)) (distinct : AreDistinctTexts texts) (text : List ℕ) where
  stands : (k : ℕ) → k < length texts → bytes_eq text (get_or texts k []) ≡ true → slice_get texts k ≡ Some text
  stands k below same =
      slice_get-get_or texts k [] below ∙ ap Some (sym ((bytes_eq-Decides text (get_or texts k [])).0 same))

  -- what a symbol reads is the text where it is the text's symbol,
  pub tested_by_symbol : (symbol k : ℕ) → symbol_of texts text ≡ Some symbol → k < length texts → bytes_eq text (get_or texts k []) ≡ (symbol == k)
  tested_by_symbol symbol k is below =
      same_from_decides (bytes_eq text (get_or texts k [])) (symbol == k) (
        λ same. same_Some symbol k (sym is ∙ symbol_of-at text texts k distinct (stands k below same)),
        λ equal. let at = subst (λ s. slice_get texts s ≡ Some text) equal (symbol_of-Some text texts symbol is) in
            (bytes_eq-Decides text (get_or texts k [])).1 (sym (get_or_from_slice_get texts k text [] at)),
      ) (Decides-eqb symbol k)

  -- and never where the text has none
  pub no_symbol_reads : (k : ℕ) → symbol_of texts text ≡ None → k < length texts → bytes_eq text (get_or texts k []) ≡ false
  no_symbol_reads k none below =
      false_from_ne_true (bytes_eq text (get_or texts k [])) (λ same. nowhere text texts distinct none k (stands k below same))

  placed : (symbol : ℕ) → symbol_of texts text ≡ Some symbol → (i : ℕ) (symbols : List ℕ) → All (λ k. k < length texts) symbols
      → position_from (bytes_eq text) i (map (λ k. get_or texts k []) symbols) ≡ position_from (λ k. symbol == k) i symbols
  placed symbol is i [] within = refl
  placed symbol is i (k ∷ ks) within =
      rw (tested_by_symbol symbol k is (All-head (λ k. k < length texts) k ks within))
      (ap (cond (symbol == k) (Some i)) (placed symbol is (i + 1) ks (All-tail (λ k. k < length texts) k ks within)))

  pub position_by_symbol : (symbol : ℕ) → symbol_of texts text ≡ Some symbol → (symbols : List ℕ) → All (λ k. k < length texts) symbols
      → position (bytes_eq text) (map (λ k. get_or texts k []) symbols) ≡ position (λ k. symbol == k) symbols
  position_by_symbol symbol is symbols within =
      position_from-zero (bytes_eq text) (map (λ k. get_or texts k []) symbols)
      ∙ (placed symbol is 0 symbols within ∙ sym (position_from-zero (λ k. symbol == k) symbols))
