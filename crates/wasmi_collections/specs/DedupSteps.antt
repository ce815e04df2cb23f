-- The steps of a deduplicating arena, what each command may be replied to, and what it leaves.
use Rattle.std.specs.Prelude.{◌≡◌, ◌≢◌, ℕ, ◌<◌, ◌≤◌, ◌↔◌, Bool, List, [], length, slice_get, Some, IsTrue}
use Rattle.wasmi_arena.specs.Keys.{Keys}
use Rattle.wasmi_arena.specs.declared.error.ArenaError.TheVariants.{KeyOutOfBounds}
use Rattle.wasmi_collections.specs.Dedup.{DedupState, AllocatesValue, RefusesValue, PutsItem, ReplacesValue, RefusesReplace}
use Rattle.wasmi_collections.specs.declared.run.dedup.DedupCommand.{DedupCommand}
use Rattle.wasmi_collections.specs.declared.run.dedup.DedupCommand.TheVariants.{Alloc, Put, Replace, Has, Clear}
use Rattle.wasmi_collections.specs.declared.run.dedup.DedupReply.{DedupReply}
use Rattle.wasmi_collections.specs.declared.run.dedup.DedupReply.TheVariants.{Key, Old, Has as HasReply, Done, Refused}

module _ {K T : Type 0} (keys : Keys K) (eq : T → T → Bool) (clones : T → T → Type 0) where
  -- from old, the arena may give this reply to the command and go on to new.
  -- From x, `Alloc y` is replied to by the key of 1, and leaves x, y in both lists.
  abbrev pub DedupStep : DedupState T → DedupCommand K T → DedupReply K T → DedupState T → Type 0
  DedupStep old (Alloc value) (Key key) new = AllocatesValue keys eq clones old value key new
  DedupStep old (Alloc value) (Refused error) new = RefusesValue keys eq old value error × (new ≡ old)
  DedupStep old (Put key item) (Old there) new = PutsItem keys old key item there new
  DedupStep old (Put key item) (Refused error) new =
      (error ≡ KeyOutOfBounds) × (length old.items ≤ keys.number key) × (new ≡ old)
  DedupStep old (Replace key value) (Old there) new = ReplacesValue keys eq clones old key value there new
  DedupStep old (Replace key value) (Refused error) new = RefusesReplace keys eq old key value error × (new ≡ old)
  DedupStep old (Has key) (HasReply found) new =
      (IsTrue found ↔ (keys.number key < length old.items)) × (new ≡ old)
  DedupStep old Clear Done new = (new.handed ≡ []) × (new.items ≡ [])
  -- no other reply is given
  DedupStep old (Alloc value) (Old there) new = ⊥
  DedupStep old (Alloc value) (HasReply found) new = ⊥
  DedupStep old (Alloc value) Done new = ⊥
  DedupStep old (Put key item) (Key other) new = ⊥
  DedupStep old (Put key item) (HasReply found) new = ⊥
  DedupStep old (Put key item) Done new = ⊥
  DedupStep old (Replace key value) (Key other) new = ⊥
  DedupStep old (Replace key value) (HasReply found) new = ⊥
  DedupStep old (Replace key value) Done new = ⊥
  DedupStep old (Has key) (Key other) new = ⊥
  DedupStep old (Has key) (Old there) new = ⊥
  DedupStep old (Has key) Done new = ⊥
  DedupStep old (Has key) (Refused error) new = ⊥
  DedupStep old Clear (Key other) new = ⊥
  DedupStep old Clear (Old there) new = ⊥
  DedupStep old Clear (HasReply found) new = ⊥
  DedupStep old Clear (Refused error) new = ⊥

-- the value was handed in by the command at this place, which was replied to with the key
pub record HasKey {K T : Type 0} (commands : List (DedupCommand K T)) (replies : List (DedupReply K T))
    (place : ℕ) (value : T) (key : K) : Type 0 where
  pub command_is : slice_get commands place ≡ Some (Alloc value)
  pub reply_is : slice_get replies place ≡ Some (Key key)

-- no command between these two places drops all items, and none that puts a value in the place of another
-- was replied to with the old item
pub record NoneClears {K T : Type 0} (commands : List (DedupCommand K T)) (replies : List (DedupReply K T))
    (low high : ℕ) : Type 0 where
  pub keeps : (place : ℕ) → low < place → place < high → slice_get commands place ≢ Some Clear
  pub replaces_none : (place : ℕ) (key : K) (value there : T) → low < place → place < high
      → slice_get commands place ≡ Some (Replace key value) → slice_get replies place ≢ Some (Old there)
