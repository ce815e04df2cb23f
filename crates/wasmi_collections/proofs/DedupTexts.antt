-- An index of texts finds each by its bytes.
-- for src/arena/dedup/by_text.rt, src/laws/strings.rt
use Rattle.std.proofs.Common.{◌≡◌, ℕ, ◌+◌, ◌<◌, ◌≤◌, Bool, true, false, cond, List, [], ◌∷◌, ◌++◌, length, map, slice_set, Option, Some, None, option_map, refl, sym, ap, ◌∙◌, subst, string_bytes, inl, inr, is_some, true≢false, arith}
use Rattle.std.specs.List.{AllByRecursion, IsDistinct, position, position_from}
use Rattle.std.specs.Str.{bytes_eq}
use Rattle.std.specs.String.{string_eq}
use Rattle.std.specs.declared.string.String.{String}
use Rattle.std.proofs.lemmas.Iterator.Adapters.{position_from-zero}
use Rattle.std.proofs.lemmas.List.{length-map, map-append, map-set}
use Rattle.std.proofs.lemmas.Option.{none-some, same_Some}
use Rattle.std.proofs.lemmas.Slice.Eq.{bytes_eq-Decides}
use Rattle.std.proofs.lemmas.List.Quantifiers.{position-Some}
use Rattle.wasmi_arena.specs.Keys.{Keys, KeyLaw}
use Rattle.wasmi_map_specs.specs.Seen.{value_seen_as}
use Rattle.wasmi_collections.specs.Dedup.{DedupState, IsIndex, AllocatesValue, ReplacesValue}
use Rattle.wasmi_interner.specs.Interner.{symbol_of, AreDistinctTexts}
use Rattle.wasmi_collections.proofs.Dedup.{position-by_view}

-- a string with this text
abbrev HasText : Type 0 → List ℕ → Type 0
HasText Z text = (x : String Z) × (bytes_eq text (string_bytes x) ≡ true)

module _ {Z : Type 0} (text : List ℕ) where
  -- what is found in an index is one
  entry_with : {K : Type 0} (entries : List (String Z × K)) (k : K) → value_seen_as bytes_eq string_bytes entries text ≡ Some k → HasText Z text
  entry_with [] k is = absurd (none-some k is)
  entry_with (e ∷ es) k is = next (bytes_eq text (string_bytes e.0)) refl is (entry_with es k)
    where
      next : (b : Bool) → bytes_eq text (string_bytes e.0) ≡ b → cond b (Some e.1) (value_seen_as bytes_eq string_bytes es text) ≡ Some k
          → (value_seen_as bytes_eq string_bytes es text ≡ Some k → HasText Z text) → HasText Z text
      next true same is rest = (e.0, same)
      next false other is rest = rest is

  -- and so is what has a place among values
  value_with : (i : ℕ) (values : List (String Z)) (p : ℕ) → position_from (bytes_eq text) i (map string_bytes values) ≡ Some p → HasText Z text
  value_with i [] p is = absurd (none-some p is)
  value_with i (x ∷ xs) p is = next (bytes_eq text (string_bytes x)) refl is (value_with (i + 1) xs p)
    where
      next : (b : Bool) → bytes_eq text (string_bytes x) ≡ b → cond b (Some i) (position_from (bytes_eq text) (i + 1) (map string_bytes xs)) ≡ Some p
          → (position_from (bytes_eq text) (i + 1) (map string_bytes xs) ≡ Some p → HasText Z text) → HasText Z text
      next true same is rest = (x, same)
      next false other is rest = rest is

module _ {K Z : Type 0} (keys : Keys K) (handed : List (String Z)) (index : List (String Z × K)) (is : IsIndex keys string_eq handed index) where
  abbrev FindsText : List ℕ → Type 0
  FindsText text = value_seen_as bytes_eq string_bytes index text ≡ option_map keys.key (symbol_of (map string_bytes handed) text)

  of_value : (x : String Z) → FindsText (string_bytes x)
  of_value x = is.finds x ∙ ap (option_map keys.key) (position-by_view bytes_eq string_bytes x handed)

  of_text : (text : List ℕ) → HasText Z text → FindsText text
  of_text text has = subst FindsText (sym ((bytes_eq-Decides text (string_bytes has.0)).0 has.1)) (of_value has.0)

  -- the key of a text is that of its place among the values handed in
  pub finds_text : (text : List ℕ) → FindsText text
  finds_text text = next (value_seen_as bytes_eq string_bytes index text) refl (symbol_of (map string_bytes handed) text) refl
    where
      next : (found : Option K) → value_seen_as bytes_eq string_bytes index text ≡ found → (place : Option ℕ) → symbol_of (map string_bytes handed) text ≡ place → FindsText text
      next (Some k) found place at = of_text text (entry_with text index k found)
      next None found (Some p) at =
          of_text text (value_with text 0 handed p (sym (position_from-zero (bytes_eq text) (map string_bytes handed)) ∙ at))
      next None found None at = found ∙ sym (ap (option_map keys.key) at)

-- a text that has a key has the place of the key's number
pub place_of_text : {K Z : Type 0} (keys : Keys K) (law : KeyLaw keys) (handed : List (String Z)) (text : List ℕ) (key : K) → length handed ≤ keys.count
    → option_map keys.key (symbol_of (map string_bytes handed) text) ≡ Some key → (keys.number key < length handed) × (symbol_of (map string_bytes handed) text ≡ Some (keys.number key))
place_of_text keys law handed text key few is = next (symbol_of (map string_bytes handed) text) refl is
  where
    next : (o : Option ℕ) → symbol_of (map string_bytes handed) text ≡ o → option_map keys.key o ≡ Some key → (keys.number key < length handed) × (o ≡ Some (keys.number key))
    next None at is = absurd (true≢false (sym (ap is_some is)))
    next (Some p) at is =
        let low = (position-Some (bytes_eq text) (map string_bytes handed) p text at).0 in
        let counted = length-map handed string_bytes in
        let same : keys.number key ≡ p = sym (ap keys.number (same_Some (keys.key p) key is)) ∙ law.numbered p (omega (arith, low, few, counted)) in
        (omega (arith, low, counted, same), ap Some (sym same))

-- ---- the texts of both lists

module _ {Z : Type 0} where
  abbrev same_bytes : String Z → String Z → Type 0
  same_bytes one clone = string_bytes clone ≡ string_bytes one

  bytes_differ : (x : String Z) (xs : List (String Z)) → AllByRecursion (λ y. string_eq x y ≡ false) xs → AllByRecursion (λ text. bytes_eq (string_bytes x) text ≡ false) (map string_bytes xs)
  bytes_differ x [] all = tt
  bytes_differ x (y ∷ ys) all = (all.0, bytes_differ x ys all.1)

  -- distinct values have distinct texts
  pub distinct_bytes : (xs : List (String Z)) → IsDistinct string_eq xs → AreDistinctTexts (map string_bytes xs)
  unfolding IsDistinct
  distinct_bytes [] distinct = tt
  distinct_bytes (x ∷ xs) distinct = (bytes_differ x xs distinct.0, distinct_bytes xs distinct.1)

  -- a value whose text isn't among those handed in isn't either
  not_found : (handed : List (String Z)) (value : String Z) (p : ℕ) → symbol_of (map string_bytes handed) (string_bytes value) ≡ None → position (string_eq value) handed ≡ Some p → ⊥
  not_found handed value p absent is = none-some p (sym absent ∙ (sym (position-by_view bytes_eq string_bytes value handed) ∙ is))

  module _ {K : Type 0} (keys : Keys K) (old new : DedupState (String Z)) where
    -- a text that is handed in goes to the end of both lists
    pub texts_allocated : (value : String Z) (key : K) → symbol_of (map string_bytes old.handed) (string_bytes value) ≡ None → AllocatesValue keys string_eq same_bytes old value key new
        → (key ≡ keys.key (length old.handed)) × (map string_bytes new.handed ≡ map string_bytes old.handed ++ string_bytes value ∷ []) × (map string_bytes new.items ≡ map string_bytes old.items ++ string_bytes value ∷ [])
    texts_allocated value key absent given = elim given [
      | inl found ↦ absurd (not_found old.handed value found.0 absent found.1)
      | inr added ↦ (
        added.key_is,
        ap (map string_bytes) added.handed_are ∙ map-append string_bytes old.handed (value ∷ []),
        ap (map string_bytes) added.items_are.2 ∙ (map-append string_bytes old.items (added.items_are.0 ∷ []) ∙ ap (λ text. map string_bytes old.items ++ text ∷ []) added.items_are.1),
      )
    ]

    -- one that takes the place of another does so in both lists
    pub texts_replaced : (key : K) (value there : String Z) → symbol_of (map string_bytes old.handed) (string_bytes value) ≡ None → ReplacesValue keys string_eq same_bytes old key value there new
        → (map string_bytes new.handed ≡ slice_set (map string_bytes old.handed) (keys.number key) (string_bytes value)) × (map string_bytes new.items ≡ slice_set (map string_bytes old.items) (keys.number key) (string_bytes value))
    texts_replaced key value there absent given = elim given [
      | inl same ↦ absurd (not_found old.handed value (keys.number key) absent same.0)
      | inr moved ↦ (
        ap (map string_bytes) moved.handed_are ∙ map-set string_bytes old.handed (keys.number key) value,
        ap (map string_bytes) moved.items_are.2 ∙ (map-set string_bytes old.items (keys.number key) moved.items_are.0 ∙ ap (slice_set (map string_bytes old.items) (keys.number key)) moved.items_are.1),
      )
    ]
