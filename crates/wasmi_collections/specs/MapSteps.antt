-- The steps of a map, what each command may be replied to, and what it leaves.
use Rattle.std.specs.Prelude.{◌≡◌, Bool, List, [], length, is_some}
use Rattle.wasmi_map_specs.specs.Maps.{value_at}
use Rattle.wasmi_collections.specs.MapCalls.{PutsValue, TakesValue, AddsValue, RefusesKey}
use Rattle.wasmi_collections.specs.declared.run.map.MapCommand.{MapCommand}
use Rattle.wasmi_collections.specs.declared.run.map.MapCommand.TheVariants.{Insert, Remove, Has, OrInsert, Len, Clear}
use Rattle.wasmi_collections.specs.declared.run.map.MapReply.{MapReply}
use Rattle.wasmi_collections.specs.declared.run.map.MapReply.TheVariants.{Old, Has as HasReply, Len as LenReply, Done, Refused}

module _ {K V : Type 0} (eq : K → K → Bool) where
  -- from old, the map may give this reply to the command and go on to new.
  -- From (1, a), `OrInsert 1 b` is replied to by `HasReply true`, and (1, a) stays.
  abbrev pub MapStep : List (K × V) → MapCommand K V → MapReply V → List (K × V) → Type 0
  MapStep old (Insert key value) (Old there) new = PutsValue eq old key value there new
  MapStep old (Insert key value) (Refused error) new = RefusesKey eq old key error × (new ≡ old)
  MapStep old (Remove key) (Old there) new = TakesValue eq old key there new
  MapStep old (Has key) (HasReply found) new =
      (found ≡ is_some (value_at eq old key)) × (new ≡ old)
  MapStep old (OrInsert key value) (HasReply found) new = AddsValue eq old key value found new
  MapStep old (OrInsert key value) (Refused error) new = RefusesKey eq old key error × (new ≡ old)
  MapStep old Len (LenReply len) new = (len ≡ length old) × (new ≡ old)
  MapStep old Clear Done new = new ≡ []
  -- no other reply is given
  MapStep old (Insert key value) (HasReply found) new = ⊥
  MapStep old (Insert key value) (LenReply len) new = ⊥
  MapStep old (Insert key value) Done new = ⊥
  MapStep old (Remove key) (HasReply found) new = ⊥
  MapStep old (Remove key) (LenReply len) new = ⊥
  MapStep old (Remove key) Done new = ⊥
  MapStep old (Remove key) (Refused error) new = ⊥
  MapStep old (Has key) (Old there) new = ⊥
  MapStep old (Has key) (LenReply len) new = ⊥
  MapStep old (Has key) Done new = ⊥
  MapStep old (Has key) (Refused error) new = ⊥
  MapStep old (OrInsert key value) (Old there) new = ⊥
  MapStep old (OrInsert key value) (LenReply len) new = ⊥
  MapStep old (OrInsert key value) Done new = ⊥
  MapStep old Len (Old there) new = ⊥
  MapStep old Len (HasReply found) new = ⊥
  MapStep old Len Done new = ⊥
  MapStep old Len (Refused error) new = ⊥
  MapStep old Clear (Old there) new = ⊥
  MapStep old Clear (HasReply found) new = ⊥
  MapStep old Clear (LenReply len) new = ⊥
  MapStep old Clear (Refused error) new = ⊥

  -- two lists of entries are one map: each key has in both the same value, or none, and there are as
  -- many entries
  abbrev pub SameEntries : List (K × V) → List (K × V) → Type 0
  SameEntries a b = ((q : K) → value_at eq a q ≡ value_at eq b q) × (length a ≡ length b)

-- the reply doesn't say that the command was refused
abbrev pub AcceptsMapCommand : {V : Type 0} → MapReply V → Type 0
AcceptsMapCommand (Old there) = Unit {0}
AcceptsMapCommand (HasReply found) = Unit {0}
AcceptsMapCommand (LenReply len) = Unit {0}
AcceptsMapCommand Done = Unit {0}
AcceptsMapCommand (Refused error) = ⊥
