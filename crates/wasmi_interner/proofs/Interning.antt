-- What interning says of a text, and of others.
-- for src/string_interner.rt, src/laws.rt
use Rattle.std.proofs.Common.{◌≡◌, ℕ, zero, suc, List, [], ◌∷◌, Some, slice_get, sym, ap, ◌∙◌, inl, inr}
use Rattle.std.specs.Prelude.{◌++◌, Result, Ok, Err, IfOk}
use Rattle.std.proofs.lemmas.Option.{none-some, same_Some}
use Rattle.wasmi_arena.specs.declared.error.ArenaError.{ArenaError}
use Rattle.wasmi_interner.specs.Interner.{symbol_of, Interns, Interning}
use Rattle.wasmi_interner.proofs.Symbols.{symbol_of-Some, symbol_of-last, symbol_of-push}

-- an interned text has its symbol
pub symbol_of-Interns : (old : List (List ℕ)) (text : List ℕ) (symbol : ℕ) (new : List (List ℕ)) → Interns old text symbol new → symbol_of new text ≡ Some symbol
symbol_of-Interns old text symbol new interns = elim interns [
  | inl there ↦ rw there.1 there.0
  | inr added ↦ rw (added.3, added.2) (symbol_of-last text old added.0)
]

-- and a text that has one keeps it
pub kept_by_interning : (old : List (List ℕ)) (text : List ℕ) (symbol : ℕ) (new : List (List ℕ)) → Interns old text symbol new → (other : List ℕ) (s : ℕ) → symbol_of old other ≡ Some s → symbol_of new other ≡ Some s
kept_by_interning old text symbol new interns other s is = elim interns [
  | inl there ↦ rw there.1 is
  | inr added ↦ rw added.3 (symbol_of-push text other old s is)
]

-- what a symbol reads, it reads with one more text
reads_with_more : (texts : List (List ℕ)) (text other : List ℕ) (symbol : ℕ) → slice_get texts symbol ≡ Some other → slice_get (texts ++ text ∷ []) symbol ≡ Some other
reads_with_more [] text other symbol is = absurd (none-some other is)
reads_with_more (t ∷ ts) text other zero is = is
reads_with_more (t ∷ ts) text other (suc symbol) is = reads_with_more ts text other symbol is

-- what a call says of a text, one by one
module _ (old : List (List ℕ)) (text : List ℕ) (new : List (List ℕ)) where
  pub interning-there : (r : Result ℕ ArenaError) → Interning old text r new → (symbol : ℕ) → symbol_of old text ≡ Some symbol → (r ≡ Ok symbol) × (new ≡ old)
  interning-there (Ok s) told symbol there = elim told [
    | inl found ↦ (ap Ok (same_Some s symbol (sym found.0 ∙ there)), found.1)
    | inr added ↦ absurd (none-some symbol (sym added.0 ∙ there))
  ]
  interning-there (Err e) told symbol there = absurd (none-some symbol (sym told.0.0 ∙ there))

  pub interning-known : (r : Result ℕ ArenaError) → Interning old text r new → IfOk r (λ symbol. symbol_of new text ≡ Some symbol)
  interning-known (Ok s) told = symbol_of-Interns old text s new told
  interning-known (Err e) told = tt

  pub interning-reads : (r : Result ℕ ArenaError) → Interning old text r new → IfOk r (λ symbol. slice_get new symbol ≡ Some text)
  interning-reads (Ok s) told = symbol_of-Some text new s (symbol_of-Interns old text s new told)
  interning-reads (Err e) told = tt

  pub interning-earlier : (r : Result ℕ ArenaError) → Interning old text r new → (other : List ℕ) (symbol : ℕ) → slice_get old symbol ≡ Some other → slice_get new symbol ≡ Some other
  interning-earlier (Ok s) told other symbol is = elim told [
    | inl found ↦ rw found.1 is
    | inr added ↦ rw added.3 (reads_with_more old text other symbol is)
  ]
  interning-earlier (Err e) told other symbol is = rw told.1 is

-- interning twice
pub interned_again : (old : List (List ℕ)) (text : List ℕ) (symbol : ℕ) (new : List (List ℕ)) (again : ℕ) (newer : List (List ℕ)) → Interns old text symbol new → Interns new text again newer → (again ≡ symbol) × (newer ≡ new)
interned_again old text symbol new again newer first second =
    let is = symbol_of-Interns old text symbol new first in
    elim second [
      | inl there ↦ (same_Some again symbol (sym there.0 ∙ is), there.1)
      | inr added ↦ absurd (none-some symbol (sym added.0 ∙ is))
    ]
