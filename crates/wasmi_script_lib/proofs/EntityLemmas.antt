-- What a store says of an entity that isn't there, and the key of one more.
-- for src/store_commands.rt
use Rattle.std.proofs.Common.{◌≡◌, ℕ, zero, suc, ◌<◌, ◌≤◌, List, [], ◌∷◌, ◌++◌, codes, length, Bool, true, false, cond, ltb, Option, Some, None, refl, sym, ap, ◌∙◌, inl, inr, arith}
use Rattle.std.specs.Prelude.{◌≢◌, ◌⊎◌}
use Rattle.std.specs.Option.{option_map}
use Rattle.std.proofs.lemmas.Bool.{le-ltb, ltb-false, true_from_ne_false}
use Rattle.wasmi_arena.specs.Geometry.{max_len}
use Rattle.wasmi_arena.specs.declared.error.ArenaError.{ArenaError}
use Rattle.wasmi_arena.specs.declared.error.ArenaError.TheVariants.{DuplicateItem, KeyOutOfBounds, OutOfSystemMemory}
use Rattle.wasmi_collections.specs.Interner.{symbol_of}
use Rattle.wasmi_script_lib.specs.Distinct.{number_at}
use Rattle.wasmi_script_lib.specs.States.{entity_key, symbols}
use Rattle.std.proofs.lemmas.Option.{none-some, same_Some}
use Rattle.wasmi_script_lib.specs.Replies.{property_text, was_reply}
use Rattle.wasmi_script_lib.specs.Store.{Entity, Store, IsFullFor, entities_with_property, with_property}

past_end : (entities : List Entity) (key : ℕ) (property : Option ℕ) → length entities ≤ key → entities_with_property entities key property ≡ entities
past_end [] key property past = refl
past_end (e ∷ es) zero property past = absurd (omega (arith, past))
past_end (e ∷ es) (suc key) property past = ap (λ (rest : List Entity). e ∷ rest) (past_end es key property (omega (arith, past)))

-- it gets no property
pub property_of_none : (store : Store) (key : ℕ) (property : Option ℕ) → length store.entities ≤ key → with_property store key property ≡ store
property_of_none store key property past = ap (λ (entities : List Entity). record store { entities = entities }) (past_end store.entities key property past)

module _ (store : Store) (name : List ℕ) where
  -- where there is room for one more entity, its key is how many there are
  pub key-added : (IsFullFor store name → ⊥) → entity_key store name ≡ Some (length store.entities)
  key-added room =
      let below : ltb (length store.entities) max_len ≡ true = true_from_ne_false _ (λ above. room (inl (ltb-false _ _ above))) in
      ap (λ b. cond b (option_map (λ (s : ℕ). length store.entities) (number_at symbols (length store.names) (symbol_of store.names name))) None) below ∙ at (symbol_of store.names name) refl
    where
      at : (place : Option ℕ) → symbol_of store.names name ≡ place → option_map (λ (s : ℕ). length store.entities) (number_at symbols (length store.names) place) ≡ Some (length store.entities)
      at (Some s) is = refl
      at None is =
          let below : ltb (length store.names) symbols ≡ true = true_from_ne_false _ (λ above. room (inr (is, ltb-false _ _ above))) in
          ap (λ b. option_map (λ (s : ℕ). length store.entities) (cond b (Some (length store.names)) None)) below

  -- and else there is none
  pub no-entity_key : IsFullFor store name → entity_key store name ≡ None
  no-entity_key full = elim full [
    | inl all ↦ ap (λ b. cond b (option_map (λ (s : ℕ). length store.entities) (number_at symbols (length store.names) (symbol_of store.names name))) None) (le-ltb _ _ all)
    | inr new ↦
        let none : number_at symbols (length store.names) (symbol_of store.names name) ≡ None =
        ap (number_at symbols (length store.names)) new.0 ∙ ap (λ b. cond b (Some (length store.names)) None) (le-ltb _ _ new.1) in
        ap (λ (number : Option ℕ). cond (ltb (length store.entities) max_len) (option_map (λ (s : ℕ). length store.entities) number) None) none ∙ either (ltb (length store.entities) max_len)
  ]
    where
      either : (b : Bool) → cond {A = Option ℕ} b None None ≡ None
      either true = refl
      either false = refl

-- what is read under a key, by its number
pub under_key : {X Y : Type 0} (read : ℕ → Option X) (make : Y → X) (key number : ℕ) (had now : Y) → key ≡ number → read key ≡ Some (make had) → had ≡ now → read number ≡ Some (make now)
under_key read make key number had now same at is = sym (ap read same) ∙ (at ∙ ap (λ y. Some (make y)) is)

-- the key of an entity isn't past them
pub not_past : (key number len : ℕ) → (key ≡ number) × (number < len) → len ≤ key → ⊥
not_past key number len there past = omega (arith, there.0, there.1, past)

-- what is replied where an entity has this property
pub was-property : (found : Option Entity) (property : Option ℕ) → option_map (λ (entity : Entity). entity.property) found ≡ Some property → was_reply found ≡ codes "was " ++ property_text property
was-property (Some entity) property is = ap (λ (p : Option ℕ). codes "was " ++ property_text p) (same_Some _ property is)
was-property None property is = absurd (none-some property is)

-- what is refused though there is such an entity, but not for memory, is a name that another kind has
pub is-duplicate : (error : ArenaError) → (error ≡ KeyOutOfBounds) ⊎ ((error ≡ DuplicateItem) ⊎ (error ≡ OutOfSystemMemory))
    → (error ≡ KeyOutOfBounds → ⊥) → error ≢ OutOfSystemMemory → error ≡ DuplicateItem
is-duplicate error refused there memory = elim refused [
  | inl past ↦ absurd (there past)
  | inr other ↦ elim other [ inl duplicate ↦ duplicate | inr out ↦ absurd (memory out) ]
]
