use Rattle.std.proofs.Common.{◌≡◌, ◌+◌, length, take}
use Rattle.std.specs.List.{AllZip}
use Rattle.wasmi_arena.specs.inner.Slots.{IsOneBlock}
use Rattle.wasmi_arena.proofs.bucket.Bucket.push_clones.Given as goal

-- the slots before this one hold the clones of the items before, and the others are as they were
abbrev pub invariant-loop-slot : goal.invariant-loop-slot
invariant-loop-slot g l = record {
  one : IsOneBlock l.self-inside.ptr l.self-inside.slots l.self-inside.right l.self-inside.capacity l.self-inside.alloc;
  pointer : l.ptr ≡ l.self-inside.ptr;
  capacity : l.self-inside.capacity ≡ l.fn.self.capacity;
  taken : l.self-inside.slots.taken ≡ 0;
  items : AllZip g.T.Clone.is_clone (take l.slot l.items) l.self-inside.slots.items;
  counted : length l.self-inside.slots.items ≡ l.slot;
  free : l.slot + l.self-inside.slots.free ≡ l.self-inside.capacity;
}
