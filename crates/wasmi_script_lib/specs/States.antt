-- What a script keeps, what it replies to each request, and what it keeps afterwards.
use Rattle.std.specs.Prelude.{ℕ, List, [], ◌∷◌, ◌^◌, ◌++◌, length, if◌then◌else◌, nat_lt, Option, Some, None, codes, decimal, slice_get}
use Rattle.std.specs.Option.{option_map}
use Rattle.wasmi_arena.specs.Geometry.{max_len, bucket_of, slot_of, slots}
use Rattle.wasmi_arena.specs.declared.error.ArenaError.TheVariants.{KeyOutOfBounds, NotEnoughKeys}
use Rattle.wasmi_script_lib.specs.Requests.{Request, Alloc, Get, Place, Count, Dedup, Intern, Resolve, AddEntity, SetProperty, RenameKind, GetEntity}
use Rattle.wasmi_script_lib.specs.Distinct.{number_given, with_text}
use Rattle.wasmi_script_lib.specs.Replies.{error_reply, is_reply, number_reply, rename_reply, text_reply, was_reply}
use Rattle.wasmi_script_lib.specs.Store.{Entity, Store, is_other_kind, no_entities, with_entity, with_property, with_renamed}

-- the texts that a script keeps, in the arena, in the deduplicating arena and in the interner, and its
-- store of entities
pub record State : Type 0 where
  pub kept : List (List ℕ)
  pub deduped : List (List ℕ)
  pub interned : List (List ℕ)
  pub store : Store

-- at first there is nothing
abbrev pub empty : State
empty = record { kept = []; deduped = []; interned = []; store = no_entities }

-- how many keys the deduplicating arena has
abbrev pub keys : ℕ
keys = 2 ^ 64

-- how many symbols an interner has
abbrev pub symbols : ℕ
symbols = 2 ^ 32

-- how many texts each list has, and how many slots the arena has for its own
abbrev pub counts_reply : State → List ℕ
counts_reply state =
    codes "counts " ++ decimal (length state.kept) ++ codes " " ++ decimal (length state.deduped)
    ++ codes " " ++ decimal (length state.interned)
    ++ codes " " ++ decimal (slots (length state.kept))

-- the key of one more entity of this name. There is none where there are as many entities as have keys, or
-- the name is new and there are as many names as have symbols
abbrev pub entity_key : Store → List ℕ → Option ℕ
entity_key store name =
    if nat_lt (length store.entities) max_len
    then option_map (λ symbol. length store.entities) (number_given symbols store.names name)
    else None

-- the store with one more entity, if it has a key
abbrev pub store_added : Store → List ℕ → List ℕ → Option ℕ → Store
store_added store name kind (Some key) = with_entity store name kind
store_added store name kind None = store

-- the store after the kind of this entity was to be renamed
abbrev pub store_renamed : Store → List ℕ → Option Entity → Store
store_renamed store kind (Some entity) =
    if is_other_kind store entity kind then store else with_renamed store entity.kind kind
store_renamed store kind None = store

-- the reply to a request, without the line feed.
-- `g 0` with `x` kept: `text x`.
abbrev pub reply_to : State → Request → List ℕ
reply_to state (Alloc text) =
    if nat_lt (length state.kept) max_len then codes "key " ++ decimal (length state.kept)
    else error_reply NotEnoughKeys
reply_to state (Get key) = text_reply (error_reply KeyOutOfBounds) (slice_get state.kept key)
reply_to state (Place index) =
    if nat_lt index max_len
    then codes "place " ++ decimal (bucket_of index) ++ codes " " ++ decimal (slot_of index)
    else codes "none"
reply_to state Count = counts_reply state
reply_to state (Dedup text) = number_reply (codes "key ") (number_given keys state.deduped text)
reply_to state (Intern text) = number_reply (codes "sym ") (number_given symbols state.interned text)
reply_to state (Resolve symbol) =
    if nat_lt symbol symbols then text_reply (codes "none") (slice_get state.interned symbol)
    else codes "none"
reply_to state (AddEntity name kind) = number_reply (codes "entity ") (entity_key state.store name)
reply_to state (SetProperty key property) = was_reply (slice_get state.store.entities key)
reply_to state (RenameKind key kind) =
    rename_reply state.store kind (slice_get state.store.entities key)
reply_to state (GetEntity key) = is_reply (slice_get state.store.entities key)

-- the state after a request: `a` adds a text while there is room, `d` and `i` also only if it is new
abbrev pub state_after : State → Request → State
state_after state (Alloc text) =
    if nat_lt (length state.kept) max_len then record state { kept = state.kept ++ text ∷ [] }
    else state
state_after state (Get key) = state
state_after state (Place index) = state
state_after state Count = state
state_after state (Dedup text) = record state { deduped = with_text keys state.deduped text }
state_after state (Intern text) = record state { interned = with_text symbols state.interned text }
state_after state (Resolve symbol) = state
state_after state (AddEntity name kind) =
    record state { store = store_added state.store name kind (entity_key state.store name) }
state_after state (SetProperty key property) =
    record state { store = with_property state.store key (Some property) }
state_after state (RenameKind key kind) =
    record state { store = store_renamed state.store kind (slice_get state.store.entities key) }
state_after state (GetEntity key) = state
