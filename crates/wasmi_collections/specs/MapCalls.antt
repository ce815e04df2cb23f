-- What each call does to a finite map, seen as the list of its entries. `eq` says which keys are equal.
use Rattle.std.specs.Map.{keys_of}
use Rattle.std.specs.Prelude.{◌≡◌, ℕ, ◌+◌, Bool, true, false, List, length, Option, Some, None, IfNone, IsSome, is_some}
use Rattle.wasmi_arena.specs.declared.error.ArenaError.{ArenaError}
use Rattle.wasmi_arena.specs.declared.error.ArenaError.TheVariants.{OutOfSystemMemory}
use Rattle.wasmi_map_specs.specs.Maps.{value_at, ChangesAt}

-- how many entries go in or out for this answer: one where there is a value, and else none
abbrev pub one_if : Bool → ℕ
one_if true = 1
one_if false = 0

module _ {K V : Type 0} (eq : K → K → Bool) where
  -- a value is put under a key, in place of what was there; a key that was there stays, as do the others
  pub record PutsValue (old : List (K × V)) (key : K) (value : V) (there : Option V)
      (new : List (K × V)) : Type 0 where
    pub there_is : there ≡ value_at eq old key
    pub changes : ChangesAt eq old key (Some value) new
    pub counted : length new + one_if (is_some there) ≡ length old + 1
    pub keys_stay : IsSome there → keys_of new ≡ keys_of old

  -- a key is taken out with what was there; if nothing was, the map is as before
  pub record TakesValue (old : List (K × V)) (key : K) (there : Option V)
      (new : List (K × V)) : Type 0 where
    pub there_is : there ≡ value_at eq old key
    pub changes : ChangesAt eq old key None new
    pub counted : length new + one_if (is_some there) ≡ length old
    pub unchanged : IfNone there (new ≡ old)

  -- a value is put under a key that isn't there, and else nothing changes
  abbrev pub AddsValue : List (K × V) → K → V → Bool → List (K × V) → Type 0
  AddsValue old key value true new = (is_some (value_at eq old key) ≡ true) × (new ≡ old)
  AddsValue old key value false new = PutsValue old key value None new

  -- why a key is refused: it isn't there, and there is no memory for it
  abbrev pub RefusesKey : List (K × V) → K → ArenaError → Type 0
  RefusesKey old key error = (error ≡ OutOfSystemMemory) × (value_at eq old key ≡ None)
