-- What the calls on the slots of a block do to them. No public clause cites this module.
use Rattle.std.specs.Prelude.{◌≡◌, ℕ, ◌+◌, ◌-◌, List, [], ◌∷◌, ◌++◌, drop, take, length}
use Rattle.wasmi_arena.specs.declared.raw.block.BlockPtr.{BlockPtr}
use Rattle.wasmi_arena.specs.declared.raw.block.Slots.{Slots}
use Rattle.wasmi_arena.specs.declared.raw.block.DeallocRight.{DeallocRight}

-- the same slots with these items
abbrev pub with_items : {T : Type 0} → Slots T → List T → Slots T
with_items s items = record { marker = s.marker; block = s.block; taken = s.taken; items = items; free = s.free }

-- the first free slot is filled
abbrev pub with_last : {T : Type 0} → Slots T → T → Slots T
with_last s item = record { marker = s.marker; block = s.block; taken = s.taken; items = s.items ++ item ∷ []; free = s.free - 1 }

-- the first item is taken out
abbrev pub without_first : {T : Type 0} → Slots T → Slots T
without_first s = record { marker = s.marker; block = s.block; taken = s.taken + 1; items = drop 1 s.items; free = s.free }

-- the last item is taken out
abbrev pub without_last : {T : Type 0} → Slots T → Slots T
without_last s = record { marker = s.marker; block = s.block; taken = s.taken; items = take (length s.items - 1) s.items; free = s.free + 1 }

module _ {T A : Type 0} (ptr : BlockPtr T) (slots : Slots T) (right : DeallocRight T A) (count : ℕ) (alloc : A) where
  -- the pointer and the right are those of the block of these slots
  pub record IsOneBlock : Type 0 where
    pub block : slots.block ≡ ptr.start
    pub right_block : right.block ≡ ptr.start
    pub right_slots : right.slots ≡ count
    pub right_alloc : right.alloc ≡ alloc

  -- a new block: each slot is free
  pub record IsNewBlock : Type 0 where
    pub one : IsOneBlock
    pub none_taken : slots.taken ≡ 0
    pub no_items : slots.items ≡ []
    pub all_free : slots.free ≡ count

  -- a block whose items were all taken out
  pub record AreEmptied : Type 0 where
    pub one : IsOneBlock
    pub no_items : slots.items ≡ []
    pub all_empty : slots.taken + slots.free ≡ count
