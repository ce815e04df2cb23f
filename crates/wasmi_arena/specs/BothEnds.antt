-- What an iterator gives to calls at both of its ends.
use Rattle.std.specs.Prelude.{◌≡◌, ◌⊎◌, Bool, true, false, List, [], ◌∷◌, ◌++◌, map, reverse, Option, Some, None}

module _ {S A : Type 0} (next next_back : S → Option A → S → Type 0) where
  -- calls at these ends, the front where it says `true`, led from s to t and gave these items at the
  -- front and those at the back, each in the order of the calls.
  -- Of 7, 8, 9 at front, back, front: 7, 8 at the front, 9 at the back, and nothing is left.
  abbrev pub YieldsAtEnds : S → List Bool → List A → List A → S → Type 0
  YieldsAtEnds s [] [] [] t = s ≡ t
  YieldsAtEnds s (true ∷ ends) (x ∷ front) back t = (mid : S) × next s (Some x) mid × YieldsAtEnds mid ends front back t
  YieldsAtEnds s (false ∷ ends) front (x ∷ back) t = (mid : S) × next_back s (Some x) mid × YieldsAtEnds mid ends front back t
  YieldsAtEnds s ends front back t = ⊥

  -- a call at one of the ends
  abbrev pub YieldsAtEnd : S → Option A → S → Type 0
  YieldsAtEnd s answer t = next s answer t ⊎ next_back s answer t

  -- `left` tells the items that are left of an iterator, as `reads` reads those that it gives
  pub record DrainsFromEnds {B : Type 0} (reads : A → B) (left : S → List B) : Type 0 where
    -- however the calls are mixed, by the first `None` the items from the front, and then those from the
    -- back in reverse, are the ones that were left
    pub each_once : (s t u : S) (ends : List Bool) (front back : List A) → YieldsAtEnds s ends front back t → YieldsAtEnd t None u
        → map reads front ++ reverse (map reads back) ≡ left s
    -- no item is left then
    pub none_left : (t u : S) → YieldsAtEnd t None u → left u ≡ []
    -- and from then on each answer is `None`
    pub ended : (u v : S) (answer : Option A) → left u ≡ [] → YieldsAtEnd u answer v → (answer ≡ None) × (left v ≡ [])
