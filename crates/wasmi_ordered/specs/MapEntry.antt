-- What the entry of a key in an ordered map is: that of the standard library's map.
use Rattle.std.specs.declared.collections.btree_map.Entry.TheVariants as tree
use Rattle.std.specs.declared.collections.btree_map.Entry.{Entry as InnerEntry}
use Rattle.std.specs.declared.alloc.Allocator as alloc
use Rattle.std.specs.declared.cmp.Ord as ord
use Rattle.std.specs.declared.cmp.PartialEq as eq
use Rattle.std.specs.declared.cmp.PartialOrd as partial
use Rattle.std.specs.declared.hash.Hash as hash
use Rattle.std.specs.BTreeMap.{IsUnchanged}
use Rattle.std.specs.BTreeMap.Entry.{entry_map_ref, map_without_entry, with_entry_value}
use Rattle.std.specs.BTreeMap.Lent.{OrdMembers}
use Rattle.std.specs.Prelude.{List, [], Result}
use Rattle.std.specs.Borrow.{Fml, RattleType, MutBor, follows, follows_if, follows_so, name_if_ok}
use mathlib.Core.Option.{none}
use Rattle.std.specs.contracts.collections.BTreeMap.{the_row as InnerRow}
use Rattle.wasmi_ordered.specs.contracts.map.Map.{the_row as MapRow}
use Rattle.wasmi_ordered.specs.contracts.map.entry.OccupiedEntry as HeldType
use Rattle.wasmi_ordered.specs.declared.map.entry.Entry.{Entry}
use Rattle.wasmi_ordered.specs.declared.map.entry.Entry.TheVariants.{Occupied, Vacant}
use Rattle.wasmi_ordered.specs.declared.map.entry.OccupiedEntry.{OccupiedEntry}
use mir.Syntax.{named}

module _ {Key Value Heap : Type 0} {equal : eq.Ghosts Key} {total : ord.Ghosts Key} {order : partial.Ghosts Key} where
  -- the entry in the tree
  abbrev pub inner_entry : Entry Key Value Heap equal total order → InnerEntry Key Value Heap total equal order
  inner_entry (Occupied occupied) = tree.Occupied occupied.entry
  inner_entry (Vacant vacant) = tree.Vacant vacant.entry

  -- the entry of a key that is there, with this value
  abbrev pub with_value : OccupiedEntry Key Value Heap equal total order → Value → OccupiedEntry Key Value Heap equal total order
  with_value held last = record held { entry = with_entry_value held.entry last }

module _ (K V A : RattleType) {g : ord.Ghosts K.Denot} {g' : eq.Ghosts K.Denot} {g'' : partial.Ghosts K.Denot} (heap : alloc.Ghosts A.Denot) where
  -- the tree is in the end the one without the entry's key.
  -- `remove` leaves it so.
  abbrev pub inner_without : InnerEntry K.Denot V.Denot A.Denot g g' g'' → Fml
  inner_without there = follows_so (InnerRow K V A g g' g'' heap) V (entry_map_ref there).ghost_name none (λ _ _. Unit {0}) (IsUnchanged (map_without_entry there))

  -- the entry of a key that is there has the value that was written last through the reference, whose lifetime is the
  -- call's second
  abbrev pub lends_held : MutBor (OccupiedEntry K.Denot V.Denot A.Denot g' g g'') → MutBor V.Denot → Fml
  lends_held held value = follows (HeldType.the_row (record { mir = named 1; lft = [] }) K V A g' g g'' heap) V held.ghost_name value.ghost_name (with_value held.now)

module _ (K V A : RattleType) (h : hash.Ghosts K.Denot) (g : OrdMembers K.Denot) (heap : alloc.Ghosts A.Denot) where
  -- the map has the entries that the entry's tree has in the end, and where there is no entry it is as before.
  -- `*map.entry(2)?.or_insert(b)? = c` on (1, a): (1, a), (2, c).
  abbrev pub lends_entry : {E : Type 0} → MutBor (List (K.Denot × V.Denot)) → Result (Entry K.Denot V.Denot A.Denot (record { eq = g.eq }) (record { cmp = g.cmp }) (record { partial_cmp = g.partial_cmp })) E → Fml
  lends_entry map r = follows_if (MapRow K V A h (record { eq = g.eq }) (record { cmp = g.cmp }) (record { partial_cmp = g.partial_cmp }) heap)
      (InnerRow K V A (record { cmp = g.cmp }) (record { eq = g.eq }) (record { partial_cmp = g.partial_cmp }) heap)
      map.ghost_name (name_if_ok (λ e. (entry_map_ref (inner_entry e)).ghost_name) r) (λ last. last.entries) map.now
