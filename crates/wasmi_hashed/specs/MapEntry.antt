-- What the entry of a key in a hashed map is: that of the standard library's map.
use Rattle.std.specs.declared.collections.hash_map.Entry.TheVariants as table
use Rattle.std.specs.declared.collections.hash_map.Entry.{Entry as InnerEntry}
use Rattle.std.specs.declared.alloc.Allocator as alloc
use Rattle.std.specs.declared.cmp.PartialEq as eq
use Rattle.std.specs.declared.hash.Hash as hash
use Rattle.std.specs.declared.hash.Hasher as hasher
use Rattle.std.specs.declared.hash.BuildHasher as builder
use Rattle.std.specs.contracts.collections.HashMap.{the_row as InnerRow}
use Rattle.std.specs.Borrow.{Fml, RattleType, MutBor, follows, follows_if, follows_so, name_if_ok}
use mathlib.Core.Option.{none}
use Rattle.std.specs.HashMap.{HashMap, hasher_of, IsUnchanged}
use Rattle.std.specs.HashMap.Entry.{entry_map_ref, map_with_value, map_without_entry, with_entry_value}
use Rattle.std.specs.HashMap.Lent.{HashMembers}
use Rattle.std.specs.Prelude.{◌≡◌, [], Result, OnErr}
use Rattle.wasmi_hashed.specs.Entries.{Entries}
use Rattle.wasmi_hashed.specs.contracts.map.Map.{the_row as MapRow}
use Rattle.wasmi_hashed.specs.contracts.map.entry.OccupiedEntry as HeldType
use Rattle.wasmi_hashed.specs.declared.map.entry.Entry.{Entry}
use Rattle.wasmi_hashed.specs.declared.map.entry.Entry.TheVariants.{Occupied, Vacant}
use Rattle.wasmi_hashed.specs.declared.map.entry.OccupiedEntry.{OccupiedEntry}
use mir.Syntax.{named}

-- what a map is that has this table
abbrev pub map_of : {K V S : Type 0} → HashMap K V S → Entries K V S
map_of table = record { entries = table.entries; hasher = hasher_of table }

module _ {Key Value State Heap Hasher : Type 0} {equal : eq.Ghosts Key} {hashed : hash.Ghosts Key} {builds : builder.Ghosts State Hasher} {feeds : hasher.Ghosts Hasher} where
  -- the entry in the table
  abbrev pub inner_entry : Entry Key Value State Heap Hasher equal hashed builds feeds → InnerEntry Key Value State Heap Hasher equal hashed builds feeds
  inner_entry (Occupied occupied) = table.Occupied occupied.entry
  inner_entry (Vacant vacant) = table.Vacant vacant.entry

  -- the entry of a key that is there, with this value
  abbrev pub with_value : OccupiedEntry Key Value State Heap Hasher equal hashed builds feeds → Value → OccupiedEntry Key Value State Heap Hasher equal hashed builds feeds
  with_value held last = record held { entry = with_entry_value held.entry last }

module _ (K V S A H : RattleType) {g : eq.Ghosts K.Denot} {h : hash.Ghosts K.Denot} {b : builder.Ghosts S.Denot H.Denot} {w : hasher.Ghosts H.Denot} (heap : alloc.Ghosts A.Denot) where
  -- the table is in the end the one without the entry's key.
  -- `remove` leaves it so.
  abbrev pub inner_without : InnerEntry K.Denot V.Denot S.Denot A.Denot H.Denot g h b w → Fml
  inner_without there = follows_so (InnerRow K V S A H g h b w heap) V (entry_map_ref there).ghost_name none (λ _ _. Unit {0}) (IsUnchanged (map_without_entry there))

  -- the table is in the end as the entry has it.
  -- `into_key` leaves it so.
  abbrev pub inner_stays : InnerEntry K.Denot V.Denot S.Denot A.Denot H.Denot g h b w → Fml
  inner_stays there = follows_if (InnerRow K V S A H g h b w heap) V (entry_map_ref there).ghost_name none (map_with_value there) (entry_map_ref there).now

  -- the entry of a key that is there has the value that was written last through the reference, whose lifetime is the
  -- call's second
  abbrev pub lends_held : MutBor (OccupiedEntry K.Denot V.Denot S.Denot A.Denot H.Denot g h b w) → MutBor V.Denot → Fml
  lends_held held value = follows (HeldType.the_row (record { mir = named 1; lft = [] }) K V S A H g h b w heap) V held.ghost_name value.ghost_name (with_value held.now)

module _ (K V S A H : RattleType) (m : HashMembers K.Denot) (b : builder.Ghosts S.Denot H.Denot) (w : hasher.Ghosts H.Denot) (heap : alloc.Ghosts A.Denot) where
  -- the map is what the entry's table is in the end, and where there is no entry it has the entries that it had.
  -- `*map.entry(2)?.or_insert(b)? = c` on (1, a): (1, a), (2, c).
  abbrev pub lends_entry : {E : Type 0} → MutBor (Entries K.Denot V.Denot S.Denot)
      → Result (Entry K.Denot V.Denot S.Denot A.Denot H.Denot (record { eq = m.eq }) (record { hash_input = m.hash_input }) b w) E → Fml
  lends_entry map r = follows_so (MapRow K V S A H (record { eq = m.eq }) (record { hash_input = m.hash_input }) b w heap)
      (InnerRow K V S A H (record { eq = m.eq }) (record { hash_input = m.hash_input }) b w heap)
      map.ghost_name (name_if_ok (λ e. (entry_map_ref (inner_entry e)).ghost_name) r) (λ last new. new ≡ map_of last)
      (λ new. OnErr r (new.entries ≡ map.now.entries))
