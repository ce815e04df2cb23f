-- A store of entities, each of which has a name, a kind and perhaps a property.
use Rattle.std.specs.Prelude.{◌≡◌, ℕ, zero, suc, ◌+◌, ◌<◌, ◌≤◌, ◌^◌, ◌⊎◌, List, [], ◌∷◌, ◌++◌, length, map, if◌then◌else◌, Bool, true, not, ◌&&◌, is_some, Option, None, Some, IsSome, slice_get, slice_index_or}
use Rattle.std.specs.List.{AllByRecursion}
use Rattle.std.specs.Str.{bytes_eq}
use Rattle.wasmi_arena.specs.Geometry.{max_len}
use Rattle.wasmi_collections.specs.Interner.{symbol_of}
use Rattle.wasmi_dense.specs.Components.{component_at, extent}
use Rattle.wasmi_script_lib.specs.Distinct.{with_new}
use Rattle.wasmi_script_lib.specs.declared.store.Named.{Named}

-- an entity: its name, its kind, and its property, if it has one
pub record Entity : Type 0 where
  pub name : List ℕ
  pub kind : List ℕ
  pub property : Option ℕ

-- distinct names, distinct kinds, and entities, each of which has its name and its kind among these. Its
-- key is its position
pub record Store : Type 0 where
  pub names : List (List ℕ)
  pub kinds : List (List ℕ)
  pub entities : List Entity

-- at first there is none
abbrev pub no_entities : Store
no_entities = record { names = []; kinds = []; entities = [] }

-- an entity's name is among the names, and its kind among the kinds
abbrev pub IsListed : Store → Entity → Type 0
IsListed store entity =
    IsSome (symbol_of store.names entity.name) × IsSome (symbol_of store.kinds entity.kind)

-- one more entity, of this name and kind
abbrev pub with_entity : Store → List ℕ → List ℕ → Store
with_entity store name kind = record {
  names = with_new store.names name;
  kinds = with_new store.kinds kind;
  entities = store.entities ++ record { name = name; kind = kind; property = None } ∷ [];
}

-- no entity of this name can be added: there are as many as have keys, or the name is new and there are as
-- many names as have symbols
abbrev pub IsFullFor : Store → List ℕ → Type 0
IsFullFor store name =
    (max_len ≤ length store.entities) ⊎ ((symbol_of store.names name ≡ None) × (2 ^ 32 ≤ length store.names))

-- the same entities. The name may be among the names by now, and the kind among the kinds
pub record KeepsEntities (old : Store) (name kind : List ℕ) (new : Store) : Type 0 where
  pub names : (new.names ≡ old.names) ⊎ (new.names ≡ with_new old.names name)
  pub kinds : (new.kinds ≡ old.kinds) ⊎ (new.kinds ≡ with_new old.kinds kind)
  pub entities : new.entities ≡ old.entities

-- the entities, where the one of this key has this property, or none
abbrev pub entities_with_property : List Entity → ℕ → Option ℕ → List Entity
entities_with_property [] key property = []
entities_with_property (entity ∷ entities) zero property = record entity { property = property } ∷ entities
entities_with_property (entity ∷ entities) (suc key) property =
    entity ∷ entities_with_property entities key property

-- the store, where the entity of this key has this property, or none
abbrev pub with_property : Store → ℕ → Option ℕ → Store
with_property store key property =
    record store { entities = entities_with_property store.entities key property }

-- a kind, by its new name if it has the old one
abbrev pub renamed : List ℕ → List ℕ → List ℕ → List ℕ
renamed old new kind = if bytes_eq old kind then new else kind

-- the entity, its kind by the new name if it has the old one
abbrev pub with_renamed_kind : List ℕ → List ℕ → Entity → Entity
with_renamed_kind old new entity = record entity { kind = renamed old new entity.kind }

-- the store, where the kind of the old name has the new one, among the kinds and in each entity
abbrev pub with_renamed : Store → List ℕ → List ℕ → Store
with_renamed store old new = record store {
  kinds = map (renamed old new) store.kinds;
  entities = map (with_renamed_kind old new) store.entities;
}

-- the new store is the old one, where the kind of the entity under this key has this name
abbrev pub RenamesKind : Store → ℕ → List ℕ → Store → Type 0
RenamesKind old key kind new =
    (entity : Entity) × (slice_get old.entities key ≡ Some entity) × (new ≡ with_renamed old entity.kind kind)

-- whether an entity is of another kind, and this is a kind
abbrev pub is_other_kind : Store → Entity → List ℕ → Bool
is_other_kind store entity kind =
    not (bytes_eq entity.kind kind) && is_some (symbol_of store.kinds kind)

-- there is an entity under this key, for which this is another kind
abbrev pub IsOtherKind : Store → ℕ → List ℕ → Type 0
IsOtherKind store key kind =
    (entity : Entity) × (slice_get store.entities key ≡ Some entity)
    × (is_other_kind store entity kind ≡ true)

-- How a store is kept: its names and kinds, the properties of numbers, and for each entity the numbers of
-- its name and its kind
module _ (names kinds : List (List ℕ)) (properties : List (Option ℕ)) where
  -- the entity of this number
  abbrev pub shown : ℕ → Named → Entity
  shown number named = record {
    name = slice_index_or names named.name [];
    kind = slice_index_or kinds named.kind [];
    property = component_at properties number;
  }

  -- these entities, the first of which has this number
  abbrev pub all_shown : ℕ → List Named → List Entity
  all_shown number [] = []
  all_shown number (named ∷ rest) = shown number named ∷ all_shown (number + 1) rest

  -- the store that is kept so
  abbrev pub store_of : List Named → Store
  store_of entities = record { names = names; kinds = kinds; entities = all_shown 0 entities }

  -- each entity has a name and a kind, and only entities have properties
  pub record IsSound (entities : List Named) : Type 0 where
    pub named : AllByRecursion (λ (named : Named). (named.name < length names) × (named.kind < length kinds)) entities
    pub few : extent properties ≤ length entities
