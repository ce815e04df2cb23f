use Rattle.std.proofs.Common.{◌≡◌, ◌+◌, ◌-◌, ◌≤◌, ◌/◌, length, take, vec_capacity, vec_items}
use Rattle.std.specs.List.{All}
use Rattle.wasmi_interner.specs.inner.RestBlocks.{IsFull, entries_in}
use Rattle.wasmi_interner.proofs.rest.Rest.joined.Given as goal

-- those before the next are joined by twos
abbrev pub invariant-loop-next : goal.invariant-loop-next
invariant-loop-next g l = record {
  twos : l.next ≡ length (vec_items l.wider) + length (vec_items l.wider);
  within : l.next ≤ length (vec_items l.self-inside.blocks);
  full : All (IsFull l.fn.width) (vec_items l.wider);
  same : entries_in (vec_items l.wider) ≡ entries_in (take l.next (vec_items l.self-inside.blocks));
  room : vec_capacity l.wider ≡ length (vec_items l.self-inside.blocks) / 2;
}

abbrev pub decreases-loop-next : goal.decreases-loop-next
decreases-loop-next g l = length (vec_items l.self-inside.blocks) - l.next
