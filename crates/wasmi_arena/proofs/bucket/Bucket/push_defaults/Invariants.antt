use Rattle.std.proofs.Common.{◌≡◌, ◌+◌, length}
use Rattle.wasmi_arena.specs.Growth.{AppendsMany}
use Rattle.wasmi_arena.specs.inner.Slots.{IsOneBlock}
use Rattle.wasmi_arena.proofs.bucket.Bucket.push_defaults.Given as goal

-- so many slots are filled, and the others are as they were
abbrev pub invariant-loop-filled : goal.invariant-loop-filled
invariant-loop-filled g l = record {
  one : IsOneBlock l.self-inside.ptr l.self-inside.slots l.self-inside.right l.self-inside.capacity l.self-inside.alloc;
  pointer : l.ptr ≡ l.self-inside.ptr;
  capacity : l.self-inside.capacity ≡ l.fn.self.capacity;
  taken : l.self-inside.slots.taken ≡ 0;
  items : AppendsMany g.T.Default.is_default l.filled l.fn.self.items l.self-inside.slots.items;
  counted : length l.self-inside.slots.items ≡ l.slot + l.filled;
  free : l.slot + l.filled + l.self-inside.slots.free ≡ l.self-inside.capacity;
}
