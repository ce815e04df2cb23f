-- The standard library's map or set with nothing in it is this crate's with nothing in it.
-- for src/map.rt, src/set.rt
use Rattle.std.proofs.Common.{◌≡◌, ap, []}
use Rattle.std.specs.HashMap.{HashMap}
use Rattle.std.specs.HashSet.{HashSet}
use Rattle.std.specs.HashSet as set
use Rattle.std_collections.specs.Layout.HashMapValues.{drained as drained_table}
use Rattle.std_collections.specs.Layout.HashSet.{drained as drained_set}
use Rattle.wasmi_hashed.specs.Entries.{Entries, Elements}
use Rattle.wasmi_hashed.specs.MapEntry.{map_of}

module _ {K S : Type 0} where
  pub map_of-drained : {V : Type 0} (table : HashMap K V S) (map : Entries K V S) → map_of table ≡ map → map_of (drained_table table) ≡ record { entries = []; hasher = map.hasher }
  unfolding drained_table
  map_of-drained {V = V} table map is = ap {A = Entries K V S} (λ m. record { entries = []; hasher = m.hasher }) is

  -- what a set is that has these keys and this state
  abbrev pub set_of : HashSet K S → Elements K S
  set_of keys = record { elements = keys.keys; hasher = set.hasher_of keys }

  pub set_of-drained : (keys : HashSet K S) (set : Elements K S) → set_of keys ≡ set → set_of (drained_set keys) ≡ record { elements = []; hasher = set.hasher }
  unfolding drained_set
  set_of-drained keys set is = ap {A = Elements K S} (λ s. record { elements = []; hasher = s.hasher }) is
