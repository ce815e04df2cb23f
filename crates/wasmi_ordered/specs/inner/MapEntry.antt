-- What the entry in the standard library's map is, and what becomes of that.
use Rattle.std.specs.declared.collections.btree_map.Entry.{Entry as InnerEntry}
use Rattle.std.specs.declared.alloc.Allocator as alloc
use Rattle.std.specs.declared.alloc.AllocFailed.{AllocFailed}
use Rattle.std.specs.declared.cmp.Ord as ord
use Rattle.std.specs.declared.cmp.PartialEq as eq
use Rattle.std.specs.declared.cmp.PartialOrd as partial
use Rattle.std.specs.declared.hash.Hash as hash
use Rattle.std.specs.declared.cmp.Ordering.{Ordering}
use Rattle.std.specs.declared.cmp.Ordering.TheVariants.{Equal}
use Rattle.std.specs.BTreeMap.{BTreeMap, insert_entry}
use Rattle.std.specs.BTreeMap.Entry.{entry_map_ref, entry_key, entry_value, map_with_value, map_without_entry, MatchEntry}
use Rattle.std.specs.Map.{lookup_key, remove_entry}
use Rattle.std.specs.Ordering.{eq_by_cmp}
use Rattle.wasmi_map_specs.specs.inner.Made.{IsMadeOf}
use Rattle.wasmi_map_specs.specs.Maps.{value_at}
use Rattle.std.specs.BTreeMap.Lent.{OrdMembers}
use Rattle.std.specs.Prelude.{◌≡◌, List, Result, None, Some, IsSome}
use Rattle.std.specs.Borrow.{Fml, RattleType, MutBor, RestsIfErr, Lends}
use Rattle.std.specs.contracts.collections.BTreeMap.{the_row as InnerRow}
use Rattle.wasmi_ordered.specs.contracts.map.Map.{the_row as MapRow}
use Rattle.wasmi_arena.specs.declared.error.ArenaError.{ArenaError}
use Rattle.wasmi_arena.specs.declared.error.ArenaError.TheVariants.{OutOfSystemMemory}
use Rattle.wasmi_ordered.specs.declared.map.entry.Entry.{Entry}
use Rattle.wasmi_ordered.specs.MapEntry.{inner_entry}

module _ {Key Value Heap : Type 0} {equal : eq.Ghosts Key} {total : ord.Ghosts Key} {order : partial.Ghosts Key} where
  -- the entry of a key in a map of these entries: its key, the stored one if it is there, and its value,
  -- the entries as they are, and what they become with a value written under the key and with the key taken
  -- out
  abbrev pub IsEntryOf : (Key → Key → Ordering) → List (Key × Value) → Key → InnerEntry Key Value Heap total equal order → Type 0
  IsEntryOf cmp entries key there = (entry_value there ≡ None → entry_key there ≡ key) × (cmp key (entry_key there) ≡ Equal)
      × (entry_value there ≡ value_at (eq_by_cmp cmp) entries key)
      × MatchEntry there (IsSome (value_at (eq_by_cmp cmp) entries key) × (lookup_key (eq_by_cmp cmp key) entries ≡ Some (entry_key there)))
      (value_at (eq_by_cmp cmp) entries key ≡ None)
      × ((entry_map_ref there).now.entries ≡ entries)
      × ((last : Value) → (map_with_value there last).entries ≡ insert_entry cmp entries key last)
      × ((map_without_entry there).entries ≡ remove_entry (eq_by_cmp cmp key) entries)

  -- what a map returns where the map of the standard library returns this
  abbrev pub IsOfInner : Result (InnerEntry Key Value Heap total equal order) (AllocFailed Key) → Result (Entry Key Value Heap equal total order) ArenaError → Type 0
  IsOfInner = IsMadeOf inner_entry OutOfSystemMemory

module _ (K V A : RattleType) {g : ord.Ghosts K.Denot} {g' : eq.Ghosts K.Denot} {g'' : partial.Ghosts K.Denot} (heap : alloc.Ghosts A.Denot) where
  -- where the call failed, the tree has its entries
  abbrev pub inner_rests : {E : Type 0} → MutBor (BTreeMap K.Denot V.Denot) → Result (InnerEntry K.Denot V.Denot A.Denot g g' g'') E → Fml
  inner_rests m r = RestsIfErr (InnerRow K V A g g' g'' heap) m (λ e. (entry_map_ref e).ghost_name) r (λ now. now.entries ≡ m.now.entries)

module _ (K V A : RattleType) (h : hash.Ghosts K.Denot) (g : OrdMembers K.Denot) (heap : alloc.Ghosts A.Denot) where
  -- the map has the entries that the tree has in the end
  abbrev pub lends_inner : MutBor (List (K.Denot × V.Denot)) → MutBor (BTreeMap K.Denot V.Denot) → Fml
  lends_inner map tree = Lends (MapRow K V A h (record { eq = g.eq }) (record { cmp = g.cmp }) (record { partial_cmp = g.partial_cmp }) heap)
      (InnerRow K V A (record { cmp = g.cmp }) (record { eq = g.eq }) (record { partial_cmp = g.partial_cmp }) heap) map tree (λ last. last.entries)
