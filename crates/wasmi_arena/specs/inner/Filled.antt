-- How the fields of a bucket agree. No public clause cites this module.
use Rattle.std.specs.Prelude.{◌≡◌, ℕ, ◌+◌, length}
use Rattle.wasmi_arena.specs.declared.raw.block.BlockPtr.{BlockPtr}
use Rattle.wasmi_arena.specs.declared.raw.block.Slots.{Slots}
use Rattle.wasmi_arena.specs.declared.raw.block.DeallocRight.{DeallocRight}
use Rattle.wasmi_arena.specs.inner.Slots.{IsOneBlock}

-- one block of so many slots, of which the first `len` hold the items and the rest are free
pub record IsFilledBlock {T A : Type 0} (ptr : BlockPtr T) (len capacity : ℕ) (slots : Slots T) (right : DeallocRight T A) (alloc : A) : Type 0 where
  pub one : IsOneBlock ptr slots right capacity alloc
  pub none_taken : slots.taken ≡ 0
  pub items_counted : len ≡ length slots.items
  pub rest_free : len + slots.free ≡ capacity

-- one block of so many slots, of which those from `first` to `end` hold the items, and none the others
pub record IsTakenFrom {T A : Type 0} (ptr : BlockPtr T) (first end capacity : ℕ) (slots : Slots T) (right : DeallocRight T A) (alloc : A) : Type 0 where
  pub one : IsOneBlock ptr slots right capacity alloc
  pub before_taken : slots.taken ≡ first
  pub items_counted : first + length slots.items ≡ end
  pub rest_free : end + slots.free ≡ capacity
