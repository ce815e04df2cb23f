use Rattle.std.proofs.Common.{◌≡◌, ◌+◌, length}
use Rattle.wasmi_arena.proofs.bucket.into_items.BucketItems.drop.Given as goal

-- the slots before this one are empty, and the others are as they were
abbrev pub invariant-loop-slot : goal.invariant-loop-slot
invariant-loop-slot g l = record {
  block : l.slots.block ≡ l.initial.slots.block;
  taken : l.slots.taken ≡ l.slot;
  left : l.slot + length l.slots.items ≡ l.end;
  free : l.slots.free ≡ l.initial.slots.free;
}
