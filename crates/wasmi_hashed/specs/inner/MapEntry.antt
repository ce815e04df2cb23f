-- What the entry in the standard library's map is, and what becomes of that.
use Rattle.std.specs.declared.collections.hash_map.Entry.{Entry as InnerEntry}
use Rattle.std.specs.declared.alloc.Allocator as alloc
use Rattle.std.specs.declared.alloc.AllocFailed.{AllocFailed}
use Rattle.std.specs.declared.cmp.PartialEq as eq
use Rattle.std.specs.declared.hash.Hash as hash
use Rattle.std.specs.declared.hash.Hasher as hasher
use Rattle.std.specs.declared.hash.BuildHasher as builder
use Rattle.std.specs.contracts.collections.HashMap.{the_row as InnerRow}
use Rattle.std.specs.Borrow.{Fml, RattleType, MutBor, Lends, RestsIfErr}
use Rattle.std.specs.HashMap.{HashMap, hasher_of}
use Rattle.std.specs.HashMap.Entry.{entry_key, entry_map_ref, entry_value, map_with_value, map_without_entry, MatchEntry}
use Rattle.std.specs.HashMap.Lent.{HashMembers}
use Rattle.std.specs.List.Sorted.{IsPermutation}
use Rattle.std.specs.Map.{lookup_key, remove_entry, set_value}
use Rattle.std.specs.Prelude.{◌≡◌, Bool, true, ◌∷◌, Result, None, Some, IsSome, MatchOption}
use Rattle.wasmi_map_specs.specs.inner.Made.{IsMadeOf}
use Rattle.wasmi_map_specs.specs.Maps.{value_at}
use Rattle.wasmi_hashed.specs.Entries.{Entries}
use Rattle.wasmi_hashed.specs.contracts.map.Map.{the_row as MapRow}
use Rattle.wasmi_arena.specs.declared.error.ArenaError.{ArenaError}
use Rattle.wasmi_arena.specs.declared.error.ArenaError.TheVariants.{OutOfSystemMemory}
use Rattle.wasmi_hashed.specs.declared.map.entry.Entry.{Entry}
use Rattle.wasmi_hashed.specs.MapEntry.{inner_entry, map_of}

module _ {K V S A H : Type 0} {g : eq.Ghosts K} {h : hash.Ghosts K} {b : builder.Ghosts S H} {w : hasher.Ghosts H} where
  -- the entry of a key in this map: its key, the stored one if it is there, and its value, the map as it
  -- is, and what that becomes with a value written under the key and with the key taken out
  abbrev pub IsEntryOf : (K → K → Bool) → Entries K V S → K → InnerEntry K V S A H g h b w → Type 0
  IsEntryOf same map key there = (entry_value there ≡ None → entry_key there ≡ key) × (same key (entry_key there) ≡ true)
      × (entry_value there ≡ value_at same map.entries key)
      × MatchEntry there (IsSome (value_at same map.entries key) × (lookup_key (same key) map.entries ≡ Some (entry_key there)))
      (value_at same map.entries key ≡ None)
      × ((entry_map_ref there).now.entries ≡ map.entries)
      × ((last : V) → MatchOption (value_at same map.entries key)
      (IsPermutation ((key, last) ∷ map.entries) (map_with_value there last).entries)
      (λ _. (map_with_value there last).entries ≡ set_value (same key) map.entries last))
      × ((last : V) → hasher_of (map_with_value there last) ≡ map.hasher)
      × IsPermutation (remove_entry (same key) map.entries) (map_without_entry there).entries

  -- what a map returns where the map of the standard library returns this
  abbrev pub IsOfInner : Result (InnerEntry K V S A H g h b w) (AllocFailed K) → Result (Entry K V S A H g h b w) ArenaError → Type 0
  IsOfInner = IsMadeOf inner_entry OutOfSystemMemory

module _ (K V S A H : RattleType) {g : eq.Ghosts K.Denot} {h : hash.Ghosts K.Denot} {b : builder.Ghosts S.Denot H.Denot} {w : hasher.Ghosts H.Denot} (heap : alloc.Ghosts A.Denot) where
  -- where the call failed, the table has its entries
  abbrev pub inner_rests : {E : Type 0} → MutBor (HashMap K.Denot V.Denot S.Denot) → Result (InnerEntry K.Denot V.Denot S.Denot A.Denot H.Denot g h b w) E → Fml
  inner_rests m r = RestsIfErr (InnerRow K V S A H g h b w heap) m (λ e. (entry_map_ref e).ghost_name) r (λ now. now.entries ≡ m.now.entries)

module _ (K V S A H : RattleType) (m : HashMembers K.Denot) (b : builder.Ghosts S.Denot H.Denot) (w : hasher.Ghosts H.Denot) (heap : alloc.Ghosts A.Denot) where
  -- the map has the entries that the table has in the end
  abbrev pub lends_inner : MutBor (Entries K.Denot V.Denot S.Denot) → MutBor (HashMap K.Denot V.Denot S.Denot) → Fml
  lends_inner map table = Lends (MapRow K V S A H (record { eq = m.eq }) (record { hash_input = m.hash_input }) b w heap)
      (InnerRow K V S A H (record { eq = m.eq }) (record { hash_input = m.hash_input }) b w heap) map table map_of
