-- Entries, as `HandedOn.antt` takes them, what one leaves that is used up, and the names that walks on them cite. Assumes `Logic`.
-- for src/map.rt, src/map/entry.rt, src/map/entry/
pub use Rattle.std.specs.BTreeMap.{BTreeMap, IsUnchanged}
pub use Rattle.std.specs.BTreeMap.Entry.{entry_key, entry_map_ref, entry_value, map_with_value, map_without_entry, with_entry_value, IsWritten}
pub use Rattle.std.specs.declared.collections.btree_map.Entry.TheVariants.{Occupied, Vacant}
pub use Rattle.wasmi_ordered.specs.MapEntry.{inner_entry, with_value, inner_without}
pub use Rattle.wasmi_ordered.specs.inner.MapEntry.{IsEntryOf, IsOfInner, inner_rests}
use Rattle.wasmi_arena.proofs.Steps.{ent, Lfts, Laws, RattleType, NamedLft, Ura, fpack, fsplit, Logic, sem}
use Rattle.std.specs.declared.alloc.Allocator as alloc
use Rattle.std.specs.declared.cmp.Ord as ord
use Rattle.std.specs.declared.cmp.PartialEq as eq
use Rattle.std.specs.declared.cmp.PartialOrd as partial
use Rattle.std.specs.declared.collections.btree_map.Entry.{Entry as InnerEntry}
use Rattle.std.specs.contracts.collections.BTreeMap.{the_row as MapRow}
use Rattle.std.specs.contracts.collections.btree_map.Entry as TreeEntry
use Rattle.std.specs.contracts.collections.btree_map.OccupiedEntry as TreeHeld
use Rattle.std.specs.contracts.collections.btree_map.VacantEntry as TreeFree
use Rattle.std.proofs.collections.btree_map.Entry.TheLaws as TreeEntryLaws
use Rattle.std.proofs.collections.btree_map.OccupiedEntry.TheLaws as TreeHeldLaws
use Rattle.std.proofs.collections.btree_map.VacantEntry.TheLaws as TreeFreeLaws
use Rattle.wasmi_ordered.specs.declared.map.entry.Entry.TheVariants.{Occupied as Held, Vacant as Free}
use Rattle.wasmi_ordered.specs.contracts.map.entry.Entry as EntryType
use Rattle.wasmi_ordered.specs.contracts.map.entry.OccupiedEntry as HeldType
use Rattle.wasmi_ordered.specs.contracts.map.entry.VacantEntry as FreeType
use Rattle.wasmi_ordered.proofs.map.entry.Entry.TheLaws as EntryLaws
use Rattle.wasmi_ordered.proofs.map.entry.OccupiedEntry.TheLaws as HeldLaws
use Rattle.wasmi_ordered.proofs.map.entry.VacantEntry.TheLaws as FreeLaws
use Rattle.wasmi_map_specs.proofs.HandedOn.{EntryRow, LeavesNone}
use Rattle.wasmi_map_specs.proofs.Walk.{‵, ◌$◌, ◌∵◌, ◌∷◌, [], !, ◌⊑◌, done, fjoin, gone, left, let_go, move, nothing, param, param_laws, qed, use0, keep, named, see, yes}
use denote.Exit.{Last}
use denote.Follow.{follows_by, such_by}
use mathlib.Core.List.{List}
use mathlib.Core.Option.{none}

module _ (X Y Z : RattleType) (p : eq.Ghosts X.Denot) (o : ord.Ghosts X.Denot) (q : partial.Ghosts X.Denot) (g : alloc.Ghosts Z.Denot) (LX : Laws X) (LY : Laws Y) (LZ : Laws Z) where
  -- nothing is left of an entry that is handed on
  pub entry_none : LeavesNone (λ ℓ. EntryType.the_row ℓ (param 0 X) (param 1 Y) (param 2 Z) p o q g)
  entry_none M 𝓤 𝓛 ℓ (Held x) f = qed 𝓛 [] ∵ nothing ! $ nothing ! $ nothing ! $ nothing ! $ fjoin ! $ fjoin ! $ fjoin ! $ done !
  entry_none M 𝓤 𝓛 ℓ (Free x) f = qed 𝓛 [] ∵ use0 𝓛 (‵ (let_go 4)) (gone 𝓛 4) $ nothing ! $ move ! (1 ∷ 0 ∷ []) $ fjoin ! $ nothing ! $ move ! (1 ∷ 0 ∷ []) $ fjoin ! $ done !

  pub occupied_none : LeavesNone (λ ℓ. HeldType.the_row ℓ (param 0 X) (param 1 Y) (param 2 Z) p o q g)
  occupied_none M 𝓤 𝓛 ℓ x f = qed 𝓛 [] ∵ nothing ! $ nothing ! $ nothing ! $ fjoin ! $ fjoin ! $ done !

  pub vacant_none : LeavesNone (λ ℓ. FreeType.the_row ℓ (param 0 X) (param 1 Y) (param 2 Z) p o q g)
  vacant_none M 𝓤 𝓛 ℓ x f = qed 𝓛 [] ∵ use0 𝓛 (‵ (let_go 4)) (gone 𝓛 4) $ nothing ! $ move ! (1 ∷ 0 ∷ []) $ fjoin ! $ done !

  abbrev made : (Here There : NamedLft → RattleType) → ((ℓ : NamedLft) → Laws (Here ℓ)) → ((ℓ : NamedLft) → Laws (There ℓ))
      → LeavesNone Here → ((ℓ : NamedLft) → (Here ℓ).Denot → (There ℓ).Denot) → ((ℓ : NamedLft) → (There ℓ).Denot → InnerEntry X.Denot Y.Denot Z.Denot o p q) → EntryRow
  made Here There here_laws there_laws leaves_none inner as_entry = record {
    Here = Here;
    There = There;
    here_laws = here_laws;
    there_laws = there_laws;
    leaves_none = leaves_none;
    inner = inner;
    Map = MapRow (param 0 X) (param 1 Y) (param 2 Z) o p q g;
    Value = param 1 Y;
    name_of = λ ℓ y. (entry_map_ref (as_entry ℓ y)).ghost_name;
    map_of = λ ℓ y. (entry_map_ref (as_entry ℓ y)).now;
    map_with = λ ℓ y. map_with_value (as_entry ℓ y);
  }

  abbrev pub entry : EntryRow
  entry = made (λ ℓ. EntryType.the_row ℓ (param 0 X) (param 1 Y) (param 2 Z) p o q g) (λ ℓ. TreeEntry.the_row ℓ (param 0 X) (param 1 Y) (param 2 Z) o p q g)
      (λ ℓ. EntryLaws.the_row_laws ℓ (param 0 X) (param 1 Y) (param 2 Z) p o q g (param_laws 0 X LX) (param_laws 1 Y LY) (param_laws 2 Z LZ)) (λ ℓ. TreeEntryLaws.the_row_laws ℓ (param 0 X) (param 1 Y) (param 2 Z) o p q g (param_laws 0 X LX) (param_laws 1 Y LY) (param_laws 2 Z LZ))
      entry_none (λ ℓ x. inner_entry x) (λ ℓ y. y)

  abbrev pub occupied : EntryRow
  occupied = made (λ ℓ. HeldType.the_row ℓ (param 0 X) (param 1 Y) (param 2 Z) p o q g) (λ ℓ. TreeHeld.the_row ℓ (param 0 X) (param 1 Y) (param 2 Z) o p q g)
      (λ ℓ. HeldLaws.the_row_laws ℓ (param 0 X) (param 1 Y) (param 2 Z) p o q g (param_laws 0 X LX) (param_laws 1 Y LY) (param_laws 2 Z LZ)) (λ ℓ. TreeHeldLaws.the_row_laws ℓ (param 0 X) (param 1 Y) (param 2 Z) o p q g (param_laws 0 X LX) (param_laws 1 Y LY) (param_laws 2 Z LZ))
      occupied_none (λ ℓ x. x.entry) (λ ℓ y. Occupied y)

  abbrev pub vacant : EntryRow
  vacant = made (λ ℓ. FreeType.the_row ℓ (param 0 X) (param 1 Y) (param 2 Z) p o q g) (λ ℓ. TreeFree.the_row ℓ (param 0 X) (param 1 Y) (param 2 Z) o p q g)
      (λ ℓ. FreeLaws.the_row_laws ℓ (param 0 X) (param 1 Y) (param 2 Z) p o q g (param_laws 0 X LX) (param_laws 1 Y LY) (param_laws 2 Z LZ)) (λ ℓ. TreeFreeLaws.the_row_laws ℓ (param 0 X) (param 1 Y) (param 2 Z) o p q g (param_laws 0 X LX) (param_laws 1 Y LY) (param_laws 2 Z LZ))
      vacant_none (λ ℓ x. x.entry) (λ ℓ y. Vacant y)

-- the lifetimes after the first are those of the type arguments
abbrev pub alive_in : (X Y Z : RattleType) → Lfts 4 → List (Type 0)
alive_in X Y Z κs = (κs.1.0 ⊑ X.lives) ∷ (κs.1.1.0 ⊑ Y.lives) ∷ (κs.1.1.1.0 ⊑ Z.lives) ∷ []

-- what an entry leaves that is used up
module _ {M : Type 1} {𝓤 : Ura M} (𝓛 : Logic 𝓤) (K V A : RattleType)
    (o : ord.Ghosts K.Denot) (p : eq.Ghosts K.Denot) (q : partial.Ghosts K.Denot) (g : alloc.Ghosts A.Denot) where
  abbrev Used : NamedLft → RattleType
  Used ℓ = TreeHeld.the_row ℓ K V A o p q g

  -- the tree comes back without the key
  pub goes_without : (ℓ : NamedLft) → let T = Used (record { mir = named 0; lft = ℓ.lft }) in (x : T.Denot) (w : Last (T.exit yes) x)
      → IsUnchanged (map_without_entry (Occupied x)) (see (T.exit yes) x w).0.now
      → ent 𝓤 (sem 𝓛 (left (T.exit yes) x w)) (sem 𝓛 (inner_without K V A g (Occupied x)))
  unfolding such_by follows_by
  goes_without ℓ x w without =
      let T = Used (record { mir = named 0; lft = ℓ.lft }) in let Inner = MapRow K V A o p q g in let last = (see (T.exit yes) x w).0.now in
      qed 𝓛 (‵ (left (T.exit yes) x w) ∷ []) ∵ fsplit ! $ fsplit ! $ keep ! (0 ∷ []) $
      fpack ! ((f : (V.Denot → BTreeMap K.Denot V.Denot) × BTreeMap K.Denot V.Denot) × (V.Denot → Unit {0}) × IsUnchanged (map_without_entry (Occupied x)) f.1)
      (λ f. follows_by Inner.Denot V.Denot Inner.coded.code V.coded.code (entry_map_ref (Occupied x)).ghost_name none f.0.0 f.0.1) (((λ _. last), last), (λ _. tt), without) $ done !
