-- What a contract sees of a component vector: at each number below its extent a component, or
-- nothing. So it is a finite map from numbers to components, and an extent above them all.
use Rattle.std.specs.Prelude.{◌≡◌, ◌≢◌, ℕ, List, length, Option, Some, None, slice_index_or, slice_set, ⊤}

module _ {T : Type 0} where
  -- the component at a number, if there is one. There is none from the extent on.
  -- With 7 set at 0 and 9 at 3: 9 at 3, nothing at 1 and at 100.
  abbrev pub component_at : List (Option T) → ℕ → Option T
  component_at slots number = slice_index_or slots number None

  -- how many numbers there is a place for: it is above each number that has a component.
  -- Of these: 4, also after 3 is unset.
  abbrev pub extent : List (Option T) → ℕ
  extent slots = length slots

  -- the new one has this at the number, and what the old one has at every other.
  -- `unset` of 3: nothing at 3, and 7 still at 0.
  pub record ChangesAt (old : List (Option T)) (number : ℕ) (slot : Option T) (new : List (Option T))
      : Type 0 where
    pub there : component_at new number ≡ slot
    pub elsewhere : (other : ℕ) → other ≢ number → component_at new other ≡ component_at old other

  -- the same components, with this one at a number below the extent.
  -- With 8 at 3: 7 at 0, 8 at 3.
  abbrev pub with_component : List (Option T) → ℕ → T → List (Option T)
  with_component slots number last = slice_set slots number (Some last)

  -- a place has a clone of what another has, or nothing where that has nothing. `clones` says which are
  -- clones of which
  abbrev pub IsCloneOf : (T → T → Type 0) → Option T → Option T → Type 0
  IsCloneOf clones None None = ⊤
  IsCloneOf clones (Some source) (Some clone) = clones source clone
  IsCloneOf clones None (Some clone) = ⊥
  IsCloneOf clones (Some source) None = ⊥
