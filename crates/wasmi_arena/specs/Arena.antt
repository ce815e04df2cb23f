-- The steps of an arena, and its runs: what each command may be replied to, and what it leaves.
use Rattle.std.specs.Prelude.{◌≡◌, ◌≢◌, ℕ, ◌+◌, ◌<◌, ◌≤◌, ◌↔◌, ◌⊎◌, List, [], ◌∷◌, ◌++◌, length, slice_get, slice_set, take, Some, IsTrue, Bool, true, false, min}
use Rattle.std.specs.List.{swap}
use Rattle.wasmi_arena.specs.Keys.{Keys}
use Rattle.wasmi_arena.specs.Geometry.{max_len, room}
use Rattle.wasmi_arena.specs.declared.error.ArenaError.{ArenaError}
use Rattle.wasmi_arena.specs.declared.error.ArenaError.TheVariants.{OutOfSystemMemory, KeyOutOfBounds, NotEnoughKeys, AliasingPairAccess, DuplicateItem}
use Rattle.wasmi_arena.specs.declared.run.ArenaCommand.{ArenaCommand}
use Rattle.wasmi_arena.specs.declared.run.ArenaCommand.TheVariants.{Alloc, Has, Put, Swap}
use Rattle.wasmi_arena.specs.declared.run.ArenaReply.{ArenaReply}
use Rattle.wasmi_arena.specs.declared.run.ArenaReply.TheVariants.{Key, Has as HasReply, Old, Done, Refused}

-- what an arena is: the list of its items, and how many more fit before memory is asked for.
-- A stable arena of one item has room for 31.
pub record ArenaState (T : Type 0) : Type 0 where
  pub items : List T
  pub room : ℕ

-- how many items an arena can hold: as many as there are keys, and at most `max_len` if it is bounded.
-- Under `u32` keys: 4,294,967,264 if it is bounded, and else 2^32.
abbrev pub arena_limit : {K : Type 0} → Keys K → Bool → ℕ
arena_limit keys true = min keys.count max_len
arena_limit keys false = keys.count

-- how many a stable arena can hold
abbrev pub stable_limit : {K : Type 0} → Keys K → ℕ
stable_limit keys = arena_limit keys true

-- a stable arena of these items: its room follows from their number.
-- Of 31 items: room for 1.
abbrev pub stable_state : {T : Type 0} → List T → ArenaState T
stable_state items = record { items = items; room = room (length items) }

-- the same items, and the same room
abbrev pub ArenaUnchanged : {T : Type 0} → ArenaState T → ArenaState T → Type 0
ArenaUnchanged old new = (new.items ≡ old.items) × (new.room ≡ old.room)

-- how many of these commands put an item at the end.
-- Of `Alloc(7)`, `Has(0)`: 1.
abbrev pub allocs_in : {K T : Type 0} → List (ArenaCommand K T) → ℕ
allocs_in [] = 0
allocs_in (Alloc item ∷ commands) = allocs_in commands + 1
allocs_in (Has key ∷ commands) = allocs_in commands
allocs_in (Put key item ∷ commands) = allocs_in commands
allocs_in (Swap first second ∷ commands) = allocs_in commands

-- how many of these replies tell of an item that went to the end.
-- Of `Key(0)`, `Has(true)`: 1.
abbrev pub keys_in : {K T : Type 0} → List (ArenaReply K T) → ℕ
keys_in [] = 0
keys_in (Key key ∷ replies) = keys_in replies + 1
keys_in (HasReply found ∷ replies) = keys_in replies
keys_in (Old there ∷ replies) = keys_in replies
keys_in (Done ∷ replies) = keys_in replies
keys_in (Refused error ∷ replies) = keys_in replies

-- no reply tells that there was no memory
abbrev pub NoneLacksMemory : {K T : Type 0} → List (ArenaReply K T) → Type 0
NoneLacksMemory replies = (i : ℕ) → slice_get replies i ≢ Some (Refused OutOfSystemMemory)

-- a command that exchanges an item with itself finds it: there are n items at first, and the replies
-- tell how many came before that command.
-- So it is of `Alloc(7)`, `Swap(0, 0)` from an empty arena, and not of `Swap(0, 0)`, `Alloc(7)`.
abbrev pub EqualKeysRead : {K T : Type 0} → Keys K → ℕ → List (ArenaCommand K T) → List (ArenaReply K T) → Type 0
EqualKeysRead {K} keys n commands replies =
    (i : ℕ) (first second : K) → slice_get commands i ≡ Some (Swap first second)
    → keys.number first ≡ keys.number second → keys.number first < n + keys_in (take i replies)

-- An arena has one type of keys, and holds at most `limit` items.
module _ {K T : Type 0} (keys : Keys K) (limit : ℕ) where
  -- an item goes to the end, under the key of its position. Where there is room, it falls by one.
  -- 7 into an empty arena: key 0, then the list 7.
  pub record AllocatesItem (old : ArenaState T) (item : T) (key : K) (new : ArenaState T)
      : Type 0 where
    pub has_key : length old.items < limit
    pub key_is : key ≡ keys.key (length old.items)
    pub items_are : new.items ≡ old.items ++ item ∷ []
    pub room_left : 0 < old.room → old.room ≡ new.room + 1

  -- why an item is refused: the arena is full, or it isn't but has no room and got no memory.
  -- A stable arena of 31 items has room, so memory can't run out.
  abbrev pub RefusesItem : ArenaState T → ArenaError → Type 0
  RefusesItem old NotEnoughKeys = limit ≤ length old.items
  RefusesItem old OutOfSystemMemory = (length old.items < limit) × (old.room ≡ 0)
  RefusesItem old KeyOutOfBounds = ⊥
  RefusesItem old AliasingPairAccess = ⊥
  RefusesItem old DuplicateItem = ⊥

  -- an item makes way for another, and is handed back; the room stays.
  -- 9 under key 0 of 7, 8: 7 comes back, then 9, 8.
  pub record PutsItem (old : ArenaState T) (key : K) (item there : T) (new : ArenaState T)
      : Type 0 where
    pub there_is : slice_get old.items (keys.number key) ≡ Some there
    pub items_are : new.items ≡ slice_set old.items (keys.number key) item
    pub room_is : new.room ≡ old.room

  -- two items change places; the room stays.
  -- Keys 0 and 1 of 7, 8: then 8, 7.
  pub record SwapsItems (old : ArenaState T) (first second : K) (new : ArenaState T)
      : Type 0 where
    pub apart : keys.number first ≢ keys.number second
    pub first_reads : keys.number first < length old.items
    pub second_reads : keys.number second < length old.items
    pub items_are : new.items ≡ swap old.items (keys.number first) (keys.number second)
    pub room_is : new.room ≡ old.room

  -- why two items don't change places: the keys are one, or one of them reads nothing. One key twice
  -- that reads nothing may be refused for either.
  abbrev pub RefusesSwap : ArenaState T → K → K → ArenaError → Type 0
  RefusesSwap old first second AliasingPairAccess = keys.number first ≡ keys.number second
  RefusesSwap old first second KeyOutOfBounds =
      (length old.items ≤ keys.number first) ⊎ (length old.items ≤ keys.number second)
  RefusesSwap old first second OutOfSystemMemory = ⊥
  RefusesSwap old first second NotEnoughKeys = ⊥
  RefusesSwap old first second DuplicateItem = ⊥

  -- from old, the arena may give this reply to the command and go on to new.
  -- A command that is refused leaves the same items and room, and so does `Has`. `Has` of key 1 in
  -- an arena of one item: `HasReply false`.
  abbrev pub ArenaStep : ArenaState T → ArenaCommand K T → ArenaReply K T → ArenaState T → Type 0
  ArenaStep old (Alloc item) (Key key) new = AllocatesItem old item key new
  ArenaStep old (Alloc item) (Refused error) new = RefusesItem old error × ArenaUnchanged old new
  ArenaStep old (Has key) (HasReply found) new =
      (IsTrue found ↔ (keys.number key < length old.items)) × ArenaUnchanged old new
  ArenaStep old (Put key item) (Old there) new = PutsItem old key item there new
  ArenaStep old (Put key item) (Refused error) new =
      (error ≡ KeyOutOfBounds) × (length old.items ≤ keys.number key) × ArenaUnchanged old new
  ArenaStep old (Swap first second) Done new = SwapsItems old first second new
  ArenaStep old (Swap first second) (Refused error) new =
      RefusesSwap old first second error × ArenaUnchanged old new
  -- no other reply is given
  ArenaStep old (Alloc item) (HasReply found) new = ⊥
  ArenaStep old (Alloc item) (Old there) new = ⊥
  ArenaStep old (Alloc item) Done new = ⊥
  ArenaStep old (Has key) (Key other) new = ⊥
  ArenaStep old (Has key) (Old there) new = ⊥
  ArenaStep old (Has key) Done new = ⊥
  ArenaStep old (Has key) (Refused error) new = ⊥
  ArenaStep old (Put key item) (Key other) new = ⊥
  ArenaStep old (Put key item) (HasReply found) new = ⊥
  ArenaStep old (Put key item) Done new = ⊥
  ArenaStep old (Swap first second) (Key other) new = ⊥
  ArenaStep old (Swap first second) (HasReply found) new = ⊥
  ArenaStep old (Swap first second) (Old there) new = ⊥

  -- an arena may give these replies to these commands, one step after another, from old to new.
  -- Before, between and after them it is an arena, whose items and room `state` tells.
  -- `Alloc(7)`, `Has(0)` from an empty arena: `Key(0)`, `Has(true)`, to the list 7.
  abbrev pub ArenaRun : {V : Type 0} → (V → ArenaState T)
      → V → List (ArenaCommand K T) → List (ArenaReply K T) → V → Type 0
  ArenaRun state old [] [] new = new ≡ old
  ArenaRun {V} state old (command ∷ commands) (reply ∷ replies) new =
      (next : V) × ArenaStep (state old) command reply (state next)
      × ArenaRun state next commands replies new
  ArenaRun state old [] (reply ∷ replies) new = ⊥
  ArenaRun state old (command ∷ commands) [] new = ⊥
