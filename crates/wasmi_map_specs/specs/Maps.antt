-- A finite map, seen as the list of its entries. `eq` says which keys are equal.
use Rattle.std.specs.Prelude.{◌≡◌, Bool, List, [], ◌∷◌, ◌++◌, Option, None}
use Rattle.wasmi_arena.specs.Growth.{GivesAll, GivesUpTo}
use Rattle.std.specs.Map.{lookup, update, update_all}

module _ {K V : Type 0} (eq : K → K → Bool) where
  -- the value under a key, if there is one.
  -- Of (1, a), (2, b) at 2: b.
  abbrev pub value_at : List (K × V) → K → Option V
  value_at entries k = lookup (eq k) entries

  -- the new map has this under the key, and what the old one has under every other.
  -- (1, a) with `Some b` at 2: (1, a), (2, b).
  abbrev pub ChangesAt : List (K × V) → K → Option V → List (K × V) → Type 0
  ChangesAt old k slot new = (q : K) → value_at new q ≡ update eq (value_at old) k slot q

  -- the new map is the old one after these pairs went in, one by one. Of two with one key, the value of
  -- the later one stays.
  -- (1, a), (1, b) into the empty map: (1, b).
  abbrev pub InsertsAll : List (K × V) → List (K × V) → List (K × V) → Type 0
  InsertsAll old pairs new = (q : K) → value_at new q ≡ update_all eq (value_at old) pairs q

  -- some first pairs of another map went in, one by one, and it has the rest
  abbrev pub TakesFront : List (K × V) → List (K × V) → List (K × V) → List (K × V) → Type 0
  TakesFront old other new rest = (front : List (K × V)) × (other ≡ front ++ rest) × InsertsAll old front new

  -- what is made an iterator by `becomes`, which then steps by `steps`, and whose items `read` gives as
  -- pairs
  module _ {U S I : Type 0} (becomes : U → S → Type 0) (steps : S → Option I → S → Type 0)
      (read : List I → List (K × V)) where
    -- all its items went in, one by one
    abbrev pub TakesAll : U → List (K × V) → List (K × V) → Type 0
    TakesAll iter old new = GivesAll becomes steps (λ items. InsertsAll old (read items) new) iter

    -- its items went in, one by one, up to one that was refused, whose key isn't there
    abbrev pub TakesUntilRefused : U → List (K × V) → List (K × V) → Type 0
    TakesUntilRefused iter old new =
        GivesUpTo becomes steps
        (λ items item. (refused : K × V) × InsertsAll old (read items) new × (read (item ∷ []) ≡ refused ∷ []) × (value_at new refused.0 ≡ None))
        iter
