-- A map's entries after their values were lent to be written.
use Rattle.std.specs.Prelude.{◌≡◌, List, [], ◌∷◌, length}
use Rattle.std.specs.Map.{keys_of}

module _ {K V : Type 0} where
  -- each entry with the value that a list has at its place, or with its own past the end of the list.
  -- (1, a) and c: (1, c).
  abbrev pub with_values : List (K × V) → List V → List (K × V)
  with_values [] values = []
  with_values (entry ∷ entries) [] = entry ∷ entries
  with_values (entry ∷ entries) (value ∷ values) = (entry.0, value) ∷ with_values entries values

  -- other values change no key, and add or take away no entry.
  -- This is true of every map.
  abbrev pub KeepsKeys : List (K × V) → Type 0
  KeepsKeys entries = ((values : List V) → keys_of (with_values entries values) ≡ keys_of entries)
      × ((values : List V) → length (with_values entries values) ≡ length entries)
