use Rattle.std.proofs.Common.{◌≡◌, ◌+◌, List, ◌++◌, length}
use Rattle.std.specs.Iterator.{Yields, UpTo}
use Rattle.std.specs.Iterator.{size as count}
use Rattle.wasmi_arena.specs.inner.Slots.{IsOneBlock}
use Rattle.wasmi_arena.proofs.bucket.Bucket.push_from.Given as goal

-- so many items came and are in, and the other slots are as they were
abbrev pub invariant-loop-filled : goal.invariant-loop-filled
invariant-loop-filled g l = record {
  one : IsOneBlock l.self-inside.ptr l.self-inside.slots l.self-inside.right l.self-inside.capacity l.self-inside.alloc;
  pointer : l.ptr ≡ l.self-inside.ptr;
  capacity : l.self-inside.capacity ≡ l.fn.self.capacity;
  taken : l.self-inside.slots.taken ≡ 0;
  items : (xs : List g.row.T.Denot) × (l.self-inside.slots.items ≡ l.fn.self.items ++ xs) × Yields g.I.Iterator.next_gives l.fn.items xs l.items;
  counted : length l.self-inside.slots.items ≡ l.slot + l.filled;
  free : l.slot + l.filled + l.self-inside.slots.free ≡ l.self-inside.capacity;
  end : l.slot + l.free ≡ l.self-inside.capacity;
  can : g.I.Iterator.can_next l.items;
  finite : UpTo (g.I.Iterator.remaining l.items) (count (g.I.Iterator.remaining l.fn.items));
}
