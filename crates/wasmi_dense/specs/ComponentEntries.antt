-- The components of a component vector beside their keys.
use Rattle.std.specs.Prelude.{ℕ, ◌+◌, cond, nat_lt, List, [], ◌∷◌, ◌++◌, Option, Some, None}
use Rattle.wasmi_arena.specs.Keys.{Keys}

module _ {K T : Type 0} (keys : Keys K) where
  -- a component beside the key of its number. Where no key has the number no component can be set
  abbrev pub component_under : ℕ → Option T → List (K × T)
  component_under number None = []
  component_under number (Some x) = cond (nat_lt number keys.count) ((keys.key number, x) ∷ []) []

  -- the components of these places, ascending, each beside its key. The first place has this number
  abbrev pub components_from : ℕ → List (Option T) → List (K × T)
  components_from number [] = []
  components_from number (slot ∷ slots) = component_under number slot ++ components_from (number + 1) slots

  -- each component beside its key, ascending.
  -- Of 7 at 0 and 9 at 3: (0, 7), (3, 9).
  abbrev pub component_entries : List (Option T) → List (K × T)
  component_entries slots = components_from 0 slots
