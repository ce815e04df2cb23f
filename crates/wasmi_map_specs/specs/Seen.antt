-- Look-ups with no key at hand, by what a key is seen as: a text by its bytes, a vector by its items.
-- `eq` says which views are equal, and `view` gives a key's.
use Rattle.std.specs.Prelude.{◌≡◌, Bool, cond, List, Option}
use Rattle.std.specs.List.{list_any}
use Rattle.std.specs.Map.{lookup}

module _ {K Q : Type 0} (eq : Q → Q → Bool) (view : K → Q) where
  -- whether a key is seen as this
  abbrev pub is_seen_as : Q → K → Bool
  is_seen_as seen key = eq seen (view key)

  -- whether an element of the set is seen as this
  abbrev pub has_seen_as : List K → Q → Bool
  has_seen_as set seen = list_any (is_seen_as seen) set

  -- the new set has the elements that are seen as this if `there` says so, and every other exactly if the
  -- old one has it
  abbrev pub ElementsChange : List K → Q → Bool → List K → Type 0
  ElementsChange old seen there new =
      (k : K) → has_seen_as new (view k) ≡ cond (eq seen (view k)) there (has_seen_as old (view k))

  module _ {V : Type 0} where
    -- the value under the key that is seen as this, if there is one.
    -- Of ("ab", a), seen by their bytes, at the bytes of "ab": a.
    abbrev pub value_seen_as : List (K × V) → Q → Option V
    value_seen_as entries seen = lookup (is_seen_as seen) entries

    -- the new map has this under the key that is seen so, and what the old one has under every other
    abbrev pub EntriesChange : List (K × V) → Q → Option V → List (K × V) → Type 0
    EntriesChange old seen slot new =
        (k : K) → value_seen_as new (view k) ≡ cond (eq seen (view k)) slot (value_seen_as old (view k))
