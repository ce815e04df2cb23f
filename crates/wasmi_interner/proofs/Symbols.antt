-- Facts on the symbols of texts.
-- for src/index.rt, src/string_interner.rt, src/laws.rt
use Rattle.std.proofs.Common.{◌≡◌, ◌≢◌, ℕ, zero, suc, ◌+◌, Bool, true, false, cond, ◌||◌, List, [], ◌∷◌, ◌++◌, length, Option, Some, None, IfSome, slice_get, refl, sym, ap, subst, ◌∙◌, is_some, true≢false, arith}
use Rattle.std.specs.Cmp.Lexicographic.{nat_list_eq_equiv}
use Rattle.std.specs.List.{AllByRecursion, list_any, position_from}
use Rattle.std.specs.Str.{bytes_eq}
use Rattle.std.proofs.lemmas.Iterator.Adapters.{position_from-zero}
use Rattle.std.proofs.lemmas.List.Quantifiers.{position-Some}
use Rattle.std.proofs.lemmas.Map.Keys.{IsDistinct-head, IsDistinct-push, IsDistinct-tail}
use Rattle.std.proofs.lemmas.Option.{none-some, same_Some, slice_get-get_or}
use Rattle.std.proofs.lemmas.Slice.Eq.{bytes_eq-Decides}
use Rattle.wasmi_interner.specs.Interner.{symbol_of, AreDistinctTexts}

-- a value behind a list is found there where none before it is
module _ {T : Type 0} (p : T → Bool) (x : T) where
  pub found_last : (i : ℕ) (xs : List T) → position_from p i xs ≡ None → p x ≡ true → position_from p i (xs ++ x ∷ []) ≡ Some (i + length xs)
  found_last i [] none hit = grind (arith, hit)
  found_last i (y ∷ ys) none hit = next (p y) none (found_last (i + 1) ys)
    where
      next : (b : Bool) → cond b (Some i) (position_from p (i + 1) ys) ≡ None
          → (position_from p (i + 1) ys ≡ None → p x ≡ true → position_from p (i + 1) (ys ++ x ∷ []) ≡ Some (i + 1 + length ys))
          → cond b (Some i) (position_from p (i + 1) (ys ++ x ∷ [])) ≡ Some (i + suc (length ys))
      next true none rest = absurd (true≢false (ap is_some none))
      next false none rest = rest none hit ∙ ap Some (omega arith)

at_place : {X : Type 0} (P : X → Type 0) (i : ℕ) (x : X) (xs : List X) → AllByRecursion P xs → slice_get xs i ≡ Some x → P x
at_place P i x [] all at = absurd (none-some x at)
at_place P zero x (y ∷ ys) all at = subst P (same_Some y x at) all.0
at_place P (suc i) x (y ∷ ys) all at = at_place P i x ys all.1 at

module _ (text : List ℕ) where
  passes_itself : bytes_eq text text ≡ true
  passes_itself = (bytes_eq-Decides text text).1 refl

  other_fails : (x : List ℕ) → (x ≢ text) → bytes_eq text x ≡ false
  other_fails x other = next (bytes_eq text x) refl
    where
      next : (b : Bool) → bytes_eq text x ≡ b → b ≡ false
      next true is = absurd (other (sym ((bytes_eq-Decides text x).0 is)))
      next false is = refl

  first_place : (i s : ℕ) (texts : List (List ℕ)) → AreDistinctTexts texts → slice_get texts s ≡ Some text → position_from (bytes_eq text) i texts ≡ Some (i + s)
  first_place i s [] distinct at = absurd (none-some text at)
  first_place i zero (x ∷ xs) distinct at =
      rw (same_Some x text at, passes_itself) (ap Some (omega arith))
  first_place i (suc s) (x ∷ xs) distinct at =
      let differ : bytes_eq x text ≡ false = at_place (λ y. bytes_eq x y ≡ false) s text xs (IsDistinct-head bytes_eq x xs distinct) at in
      let turned : bytes_eq text x ≡ false = nat_list_eq_equiv.symm text x ∙ differ in
      rw turned (first_place (i + 1) s xs (IsDistinct-tail bytes_eq x xs distinct) at ∙ ap Some (omega arith))

  no_place : (i : ℕ) (texts : List (List ℕ)) → ((s : ℕ) → slice_get texts s ≢ Some text) → position_from (bytes_eq text) i texts ≡ None
  no_place i [] nowhere = refl
  no_place i (x ∷ xs) nowhere =
      let other : bytes_eq text x ≡ false = other_fails x (λ same. nowhere 0 (ap Some same)) in
      rw other (no_place (i + 1) xs (λ s. nowhere (suc s)))

  -- a text that stands at a position has it as its symbol
  pub symbol_of-at : (texts : List (List ℕ)) (s : ℕ) → AreDistinctTexts texts → slice_get texts s ≡ Some text → symbol_of texts text ≡ Some s
  symbol_of-at texts s distinct at =
      position_from-zero (bytes_eq text) texts ∙ (first_place 0 s texts distinct at ∙ ap Some (omega arith))

  -- a text that stands at none has none
  pub symbol_of-nowhere : (texts : List (List ℕ)) → ((s : ℕ) → slice_get texts s ≢ Some text) → symbol_of texts text ≡ None
  symbol_of-nowhere texts nowhere = position_from-zero (bytes_eq text) texts ∙ no_place 0 texts nowhere

  -- a symbol is the position at which the text stands
  pub symbol_of-Some : (texts : List (List ℕ)) (s : ℕ) → symbol_of texts text ≡ Some s → slice_get texts s ≡ Some text
  symbol_of-Some texts s is =
      let found = position-Some (bytes_eq text) texts s [] is in
      slice_get-get_or texts s [] found.0 ∙ ap Some (sym ((bytes_eq-Decides text _).0 found.1))

  -- a text that is added to those among which it isn't stands at their end
  pub symbol_of-last : (texts : List (List ℕ)) → symbol_of texts text ≡ None → symbol_of (texts ++ text ∷ []) text ≡ Some (length texts)
  symbol_of-last texts absent =
      position_from-zero (bytes_eq text) (texts ++ text ∷ [])
      ∙ (found_last (bytes_eq text) text 0 texts (sym (position_from-zero (bytes_eq text) texts) ∙ absent) passes_itself ∙ ap Some (omega arith))

  -- and changes no symbol
  kept_place : (other : List ℕ) (i : ℕ) (texts : List (List ℕ)) (s : ℕ) → position_from (bytes_eq other) i texts ≡ Some s → position_from (bytes_eq other) i (texts ++ text ∷ []) ≡ Some s
  kept_place other i [] s is = absurd (none-some s is)
  kept_place other i (x ∷ xs) s is = next (bytes_eq other x) is (kept_place other (i + 1) xs s)
    where
      next : (b : Bool) → cond b (Some i) (position_from (bytes_eq other) (i + 1) xs) ≡ Some s
          → (position_from (bytes_eq other) (i + 1) xs ≡ Some s → position_from (bytes_eq other) (i + 1) (xs ++ text ∷ []) ≡ Some s)
          → cond b (Some i) (position_from (bytes_eq other) (i + 1) (xs ++ text ∷ [])) ≡ Some s
      next true is rest = is
      next false is rest = rest is

  pub symbol_of-push : (other : List ℕ) (texts : List (List ℕ)) (s : ℕ) → symbol_of texts other ≡ Some s → symbol_of (texts ++ text ∷ []) other ≡ Some s
  symbol_of-push other texts s is =
      position_from-zero (bytes_eq other) (texts ++ text ∷ [])
      ∙ kept_place other 0 texts s (sym (position_from-zero (bytes_eq other) texts) ∙ is)

  nowhere_any : (i : ℕ) (texts : List (List ℕ)) → position_from (bytes_eq text) i texts ≡ None → list_any (bytes_eq text) texts ≡ false
  nowhere_any i [] none = refl
  nowhere_any i (x ∷ xs) none = next (bytes_eq text x) none (nowhere_any (i + 1) xs)
    where
      next : (b : Bool) → cond b (Some i) (position_from (bytes_eq text) (i + 1) xs) ≡ None
          → (position_from (bytes_eq text) (i + 1) xs ≡ None → list_any (bytes_eq text) xs ≡ false)
          → (b || list_any (bytes_eq text) xs) ≡ false
      next true none rest = absurd (true≢false (ap is_some none))
      next false none rest = rest none

  -- a text that has no symbol goes to the end of distinct ones
  pub distinct-push : (texts : List (List ℕ)) → AreDistinctTexts texts → symbol_of texts text ≡ None → AreDistinctTexts (texts ++ text ∷ [])
  distinct-push texts distinct absent =
      IsDistinct-push nat_list_eq_equiv texts text distinct (nowhere_any 0 texts (sym (position_from-zero (bytes_eq text) texts) ∙ absent))

  -- a text that has none stands nowhere
  pub nowhere : (texts : List (List ℕ)) → AreDistinctTexts texts → symbol_of texts text ≡ None → (s : ℕ) → slice_get texts s ≢ Some text
  nowhere texts distinct absent s at = none-some s (sym absent ∙ symbol_of-at texts s distinct at)

  -- what has its symbol, if anything, reads it
  pub symbol_reads : (texts : List (List ℕ)) (symbol : Option ℕ) → symbol ≡ symbol_of texts text → IfSome symbol (λ s. slice_get texts s ≡ Some text)
  symbol_reads texts None is = tt
  symbol_reads texts (Some s) is = symbol_of-Some texts s (sym is)
