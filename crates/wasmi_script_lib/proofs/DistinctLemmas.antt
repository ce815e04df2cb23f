-- What a deduplicating arena and an interner do with one more text, as what a list of distinct texts does.
-- for src/texts.rt
use Rattle.std.proofs.Common.{◌≡◌, ℕ, ◌≤◌, List, [], ◌∷◌, ◌++◌, length, Bool, true, false, cond, ltb, Some, None, refl, sym, ap, ◌∙◌}
use Rattle.std.specs.Prelude.{Option}
use Rattle.std.proofs.lemmas.Bool.{le-ltb, ltb-false, true_from_ne_false}
use Rattle.wasmi_collections.specs.Interner.{symbol_of}
use Rattle.wasmi_script_lib.specs.Distinct.{number_at, number_given, texts_with, with_new, with_text}

module _ (limit : ℕ) (texts : List (List ℕ)) (text : List ℕ) where
  -- a text that gets a symbol or a key has the number that the list gives it
  pub given-number : (new : List (List ℕ)) (symbol : ℕ)
      → ((s : ℕ) → symbol_of texts text ≡ Some s → new ≡ texts) → (symbol_of texts text ≡ None → (symbol ≡ length texts) × (new ≡ texts ++ text ∷ []))
      → symbol_of new text ≡ Some symbol → ((symbol_of texts text ≡ None) × (limit ≤ length texts) → ⊥)
      → (number_given limit texts text ≡ Some symbol) × (new ≡ with_text limit texts text)
  given-number new symbol there added known room = at (symbol_of texts text) refl
    where
      either : (b : Bool) → cond b texts texts ≡ texts
      either true = refl
      either false = refl

      at : (place : Option ℕ) → symbol_of texts text ≡ place
          → (number_at limit (length texts) place ≡ Some symbol) × (new ≡ cond (ltb (length texts) limit) (texts_with texts text place) texts)
      at (Some s) is =
          let kept = there s is in
          (sym is ∙ ap (λ (ts : List (List ℕ)). symbol_of ts text) (sym kept) ∙ known, kept ∙ sym (either (ltb (length texts) limit)))
      at None is =
          let last = added is in
          let below : ltb (length texts) limit ≡ true = true_from_ne_false _ (λ above. room (is, ltb-false _ _ above)) in
          (ap (λ b. cond b (Some (length texts)) None) below ∙ ap (λ k. Some k) (sym last.0), last.1 ∙ sym (ap (λ b. cond b (texts ++ text ∷ []) texts) below))

  -- and one that there is none for has none
  pub no-number : symbol_of texts text ≡ None → limit ≤ length texts → (number_given limit texts text ≡ None) × (texts ≡ with_text limit texts text)
  no-number absent full =
      let above : ltb (length texts) limit ≡ false = le-ltb _ _ full in (
        ap (number_at limit (length texts)) absent ∙ ap (λ b. cond b (Some (length texts)) None) above,
        sym (ap (λ b. cond b (with_new texts text) texts) above),
      )
