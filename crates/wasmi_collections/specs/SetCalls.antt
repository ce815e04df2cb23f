-- What each call does to a finite set, seen as the list of its elements. `eq` says which are equal.
use Rattle.std.specs.Bool.{OnFalse}
use Rattle.std.specs.Prelude.{◌≡◌, ◌+◌, Bool, true, false, not, List, length}
use Rattle.std.specs.Set.{is_member}
use Rattle.wasmi_arena.specs.declared.error.ArenaError.{ArenaError}
use Rattle.wasmi_arena.specs.declared.error.ArenaError.TheVariants.{OutOfSystemMemory}
use Rattle.wasmi_collections.specs.MapCalls.{one_if}
use Rattle.wasmi_map_specs.specs.Sets.{ChangesAt}

module _ {T : Type 0} (eq : T → T → Bool) where
  -- an element is in afterwards, and it is told whether it is new; if it isn't, the set is as before
  pub record PutsElement (old : List T) (element : T) (added : Bool) (new : List T) : Type 0 where
    pub added_is : added ≡ not (is_member eq old element)
    pub changes : ChangesAt eq old element true new
    pub counted : length new ≡ length old + one_if added
    pub unchanged : OnFalse added (new ≡ old)

  -- an element is out afterwards, and it is told whether it was there; if it wasn't, the set is as before
  pub record TakesElement (old : List T) (element : T) (there : Bool) (new : List T) : Type 0 where
    pub there_is : there ≡ is_member eq old element
    pub changes : ChangesAt eq old element false new
    pub counted : length new + one_if there ≡ length old
    pub unchanged : OnFalse there (new ≡ old)

  -- why an element is refused: it isn't there, and there is no memory for it
  abbrev pub RefusesElement : List T → T → ArenaError → Type 0
  RefusesElement old element error = (error ≡ OutOfSystemMemory) × (is_member eq old element ≡ false)
