-- Where a name stands in a list of names.
-- for src/symbols.rt, src/functions.rt
use Rattle.std.proofs.Common.{◌≡◌, ◌≢◌, ◌⊎◌, ℕ, zero, suc, ◌<◌, ◌≤◌, Bool, List, [], ◌∷◌, ◌++◌, length, map, Some, None, string_bytes, slice_get, Result, Ok, Err, IfOk, OnOk, OnErr, option_map, refl, sym, ap, ◌∙◌, inl, inr, arith}
use Rattle.std.specs.List.{position, position_or_len}
use Rattle.std.specs.Str.{bytes_eq}
use Rattle.std.specs.declared.string.String.{String}
use Rattle.std.proofs.lemmas.Bool.{true≢false}
use Rattle.std.proofs.lemmas.Grind.{common_steps}
use Rattle.std.proofs.lemmas.List.{length-map, map-append}
use Rattle.std.proofs.lemmas.List.Quantifiers.{position-Some}
use Rattle.std.proofs.lemmas.List.Sums.{fails_before_first}
use Rattle.std.proofs.lemmas.Option.{none-some, same_Some, slice_get-map, slice_get_within, slice_get-get_or}
use Rattle.std.proofs.lemmas.Slice.Eq.{bytes_eq-Decides}
use Rattle.wasmi_uses.specs.Names.{AreDistinct}

-- what is read after a push: what was there, or the new item
pub slice_get-push : {X : Type 0} (xs : List X) (y read : X) (i : ℕ) → slice_get (xs ++ y ∷ []) i ≡ Some read → (slice_get xs i ≡ Some read) ⊎ ((i ≡ length xs) × (y ≡ read))
slice_get-push [] y read zero e = inr (refl, same_Some y read e)
slice_get-push [] y read (suc i) e = absurd (none-some read e)
slice_get-push (x ∷ xs) y read zero e = inl e
slice_get-push (x ∷ xs) y read (suc i) e = elim (slice_get-push xs y read i e) [ inl before ↦ inl before | inr last ↦ inr (ap suc last.0, last.1) ]

-- a name that isn't there yet may be added
pub distinct_push : (names : List (List ℕ)) (name : List ℕ) → AreDistinct names → ((i : ℕ) → slice_get names i ≢ Some name) → AreDistinct (names ++ name ∷ [])
distinct_push names name distinct absent i j read at_i at_j =
    elim (slice_get-push names name read i at_i) [
      | inl before_i ↦ elim (slice_get-push names name read j at_j) [
        | inl before_j ↦ distinct i j read before_i before_j
        | inr last_j ↦ absurd (absent i (before_i ∙ ap Some (sym last_j.1)))
      ]
      | inr last_i ↦ elim (slice_get-push names name read j at_j) [
        | inl before_j ↦ absurd (absent j (before_j ∙ ap Some (sym last_i.1)))
        | inr last_j ↦ last_i.0 ∙ sym last_j.0
      ]
    ]

-- what is there is read after a push too
pub slice_get-push_kept : {X : Type 0} (xs : List X) (y known : X) (i : ℕ) → slice_get xs i ≡ Some known → slice_get (xs ++ y ∷ []) i ≡ Some known
slice_get-push_kept [] y known i e = absurd (none-some known e)
slice_get-push_kept (x ∷ xs) y known zero e = e
slice_get-push_kept (x ∷ xs) y known (suc i) e = slice_get-push_kept xs y known i e

-- and so is the new item, at the end
pub slice_get-push_last : {X : Type 0} (xs : List X) (y : X) → slice_get (xs ++ y ∷ []) (length xs) ≡ Some y
slice_get-push_last [] y = refl
slice_get-push_last (x ∷ xs) y = slice_get-push_last xs y

module _ {Z : Type 0} (name : List ℕ) where
  -- does this text have the name's bytes?
  abbrev is_name : String Z → Bool
  is_name known = bytes_eq (string_bytes known) name

  -- where the search for a name ends, the name is read
  pub name_at_position : (names : List (String Z)) (i : ℕ) → position is_name names ≡ Some i → slice_get (map string_bytes names) i ≡ Some name
  name_at_position [] i e = absurd (none-some i e)
  name_at_position (x ∷ xs) i e =
      let found = position-Some is_name (x ∷ xs) i x e in
      let read = slice_get-get_or (x ∷ xs) i x found.0 in
      slice_get-map string_bytes (x ∷ xs) i ∙ (ap (option_map string_bytes) read ∙ ap Some ((bytes_eq-Decides _ name).0 found.1))

  -- and where it finds nothing, no position has the name
  pub name_nowhere : (names : List (String Z)) → position is_name names ≡ None → (i : ℕ) → slice_get (map string_bytes names) i ≢ Some name
  name_nowhere [] e i at = none-some name at
  name_nowhere (x ∷ xs) e i at =
      let all : length (x ∷ xs) ≤ position_or_len is_name (x ∷ xs) = grind (arith, common_steps) in
      let inside : i < length (x ∷ xs) = omega (arith, length-map (x ∷ xs) (string_bytes {Z = Z}), slice_get_within (map string_bytes (x ∷ xs)) i name at) in
      let read = ap (option_map string_bytes) (slice_get-get_or (x ∷ xs) i x inside) in
      let same = same_Some _ name (sym read ∙ (sym (slice_get-map string_bytes (x ∷ xs) i) ∙ at)) in
      true≢false (sym ((bytes_eq-Decides _ name).1 same) ∙ fails_before_first is_name (x ∷ xs) i x (omega arith))

  -- the names stay distinct, whether an item with a name that isn't there yet goes in or is refused
  pub distinct_after : {K E : Type 0} (result : Result K E) (old new : List (String Z)) (item : String Z) → OnOk result (new ≡ old ++ item ∷ []) → OnErr result (new ≡ old) → string_bytes item ≡ name → AreDistinct (map string_bytes old) → ((i : ℕ) → slice_get (map string_bytes old) i ≢ Some name) → AreDistinct (map string_bytes new)
  distinct_after (Ok key) old new item ok err bytes distinct absent =
      rw (ok, map-append string_bytes old (item ∷ []), bytes) (distinct_push (map string_bytes old) name distinct absent)
  distinct_after (Err error) old new item ok err bytes distinct absent = rw err distinct

  -- the new name is read at the end
  slice_get-map_last : (old : List (String Z)) (item : String Z) → slice_get (map string_bytes (old ++ item ∷ [])) (length old) ≡ Some (string_bytes item)
  slice_get-map_last [] item = refl
  slice_get-map_last (x ∷ xs) item = slice_get-map_last xs item

  pub read_after : {E : Type 0} (result : Result ℕ E) (old new : List (String Z)) (item : String Z) → IfOk result (λ key. key ≡ length old) → OnOk result (new ≡ old ++ item ∷ []) → string_bytes item ≡ name → IfOk result (λ key. slice_get (map string_bytes new) key ≡ Some name)
  read_after (Ok key) old new item last ok bytes = rw (ok, last) (slice_get-map_last old item ∙ ap Some bytes)
  read_after (Err error) old new item last ok bytes = tt

  -- what was read before is read after, whether the item went in or was refused
  pub kept_after : {K E : Type 0} (result : Result K E) (old new : List (String Z)) (item : String Z) → OnOk result (new ≡ old ++ item ∷ []) → OnErr result (new ≡ old) → (i : ℕ) (known : List ℕ) → slice_get (map string_bytes old) i ≡ Some known → slice_get (map string_bytes new) i ≡ Some known
  kept_after (Ok key) old new item ok err i known e =
      rw (ok, map-append string_bytes old (item ∷ [])) (slice_get-push_kept (map string_bytes old) (string_bytes item) known i e)
  kept_after (Err error) old new item ok err i known e = rw err e
