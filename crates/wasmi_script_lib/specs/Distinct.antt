-- What a list of distinct texts does with one more text: an equal one keeps its number, and a new one
-- goes to the end.
use Rattle.std.specs.Prelude.{ℕ, List, [], ◌∷◌, ◌++◌, length, if◌then◌else◌, nat_lt, Option, Some, None}
use Rattle.wasmi_collections.specs.Interner.{symbol_of}

-- the texts, with this one at the end if it has no place among them
abbrev pub texts_with : List (List ℕ) → List ℕ → Option ℕ → List (List ℕ)
texts_with texts text (Some place) = texts
texts_with texts text None = texts ++ text ∷ []

-- the texts, with this one at the end if it isn't among them.
-- `y`, `x` and `x`: the same. And `z`: `y`, `x`, `z`.
abbrev pub with_new : List (List ℕ) → List ℕ → List (List ℕ)
with_new texts text = texts_with texts text (symbol_of texts text)

-- `limit` is how many texts there can be
module _ (limit : ℕ) where
  -- the number of a text that has this place, or of one more than so many
  abbrev pub number_at : ℕ → Option ℕ → Option ℕ
  number_at len (Some place) = Some place
  number_at len None = if nat_lt len limit then Some len else None

  -- the number that a text is given: its place among the texts, or for a new one how many there are.
  -- A new one has none where the limit is reached.
  -- Of `x` among `y`, `x`: 1. Of `z`: 2.
  abbrev pub number_given : List (List ℕ) → List ℕ → Option ℕ
  number_given texts text = number_at (length texts) (symbol_of texts text)

  -- the texts afterwards: a new one is there if the limit wasn't reached
  abbrev pub with_text : List (List ℕ) → List ℕ → List (List ℕ)
  with_text texts text = if nat_lt (length texts) limit then with_new texts text else texts
