-- Facts on the entries of an arena.
use Rattle.std.proofs.Common.{◌≡◌, ℕ, zero, suc, ◌+◌, ◌<◌, ◌≤◌, List, [], ◌∷◌, ◌++◌, length, refl, sym, ◌∙◌, ap, arith, length-append, Fits, w64}
use Rattle.std.proofs.lemmas.Option.{same_Some, slice_get_within}
use Rattle.std.specs.Prelude.{Some, slice_get}
use Rattle.wasmi_arena.specs.Arena.{stable_limit}
use Rattle.wasmi_arena.specs.Keys.{Keys, KeyLaw}
use Rattle.wasmi_arena.specs.Entries.{entries_from, entries}

-- a position below the limit of a stable arena has a key, and none up to the limit is too large for a word
module _ {K : Type 0} (keys : Keys K) where
  pub has_key : (n : ℕ) → n < stable_limit keys → n < keys.count
  has_key n below = omega arith

  pub position_fits : (n : ℕ) → n ≤ stable_limit keys → Fits w64 n
  position_fits n within = record { fits = omega arith }

module _ {K T : Type 0} (keys : Keys K) where
  -- there is one entry an item
  pub length-entries_from : (from : ℕ) (items : List T) → length (entries_from keys from items) ≡ length items
  length-entries_from from [] = refl
  length-entries_from from (x ∷ xs) = omega (arith, length-entries_from (from + 1) xs)

  -- an item fewer is an entry fewer
  pub fewer_entries_last : (from to : ℕ) {old : List T} (new : List T) (item : T) → old ≡ new ++ item ∷ [] → length (entries_from keys to new) < length (entries_from keys from old)
  fewer_entries_last from to {old} new item last = omega (arith, ap length last, length-append new (item ∷ []), length-entries_from from old, length-entries_from to new)

  -- the last item is under the key behind the others
  pub entries_from_last : (from : ℕ) (items : List T) (item : T) → entries_from keys from (items ++ item ∷ []) ≡ entries_from keys from items ++ (keys.key (from + length items), item) ∷ []
  entries_from_last from [] item = ap (λ n. (keys.key n, item) ∷ []) (omega arith)
  entries_from_last from (x ∷ xs) item = ap (λ (es : List (K × T)). (keys.key from, x) ∷ es) (entries_from_last (from + 1) xs item ∙ ap (λ n. entries_from keys (from + 1) xs ++ (keys.key n, item) ∷ []) (omega arith))

  -- the entry at a position has the key of that position and the item there
  pub entry_at : (from : ℕ) (items : List T) (n : ℕ) (entry : K × T) → slice_get (entries_from keys from items) n ≡ Some entry → (slice_get items n ≡ Some entry.1) × (entry.0 ≡ keys.key (from + n))
  entry_at from [] n entry there = cc
  entry_at from (x ∷ xs) zero entry there = let same = same_Some _ _ there in (ap Some (ap (λ (e : K × T). e.1) same), sym (ap (λ (e : K × T). e.0) same) ∙ ap keys.key (omega arith))
  entry_at from (x ∷ xs) (suc n) entry there = let rest = entry_at (from + 1) xs n entry there in (rest.0, rest.1 ∙ ap keys.key (omega arith))

  -- and its key has that number
  pub entry_read : KeyLaw keys → (items : List T) (n : ℕ) (entry : K × T) → length items ≤ keys.count → slice_get (entries keys items) n ≡ Some entry
      → (n < length items) × (keys.number entry.0 ≡ n) × (slice_get items n ≡ Some entry.1)
  entry_read law items n entry few there =
      let at = entry_at 0 items n entry there in let within = slice_get_within items n entry.1 at.0 in
      (within, ap keys.number (at.1 ∙ ap keys.key (omega arith)) ∙ law.numbered n (omega arith), at.0)

  -- of items up to the limit, the first and the last stand below it
  pub first_below : (next : ℕ) {old : List T} (new : List T) (item : T) → old ≡ item ∷ new → next + length old ≤ stable_limit keys → (next < stable_limit keys) × (next + 1 + length new ≤ stable_limit keys)
  first_below next new item first within = (omega (arith, ap length first), omega (arith, ap length first))

  pub last_below : (next : ℕ) {old : List T} (new : List T) (item : T) → old ≡ new ++ item ∷ [] → next + length old ≤ stable_limit keys → next + length new < stable_limit keys
  last_below next new item last within = omega (arith, ap length last, length-append new (item ∷ []))
