use Rattle.std.proofs.Common.{◌-◌, ◌≡◌, ◌<◌, ◌≤◌, ◌+◌, ◌*◌, length, vec_items}
use Rattle.std.specs.List.{insert}
use Rattle.wasmi_interner.specs.inner.RestBlocks.{AreFew, IsBlocks, IsWidth, entries_in, room_in}
use Rattle.wasmi_interner.proofs.rest.Rest.insert.Given as goal

-- what is carried goes to a place of the next block, which is the front of all but the first
abbrev pub invariant-loop-block : goal.invariant-loop-block
invariant-loop-block g l = record {
  width : IsWidth l.self-inside.width;
  few : AreFew l.self-inside.width (length (vec_items l.self-inside.blocks));
  blocks : IsBlocks l.self-inside.width (vec_items l.self-inside.blocks);
  len : l.self-inside.len ≡ length l.fn.self.entries + 1;
  last : l.last + 1 ≡ length (vec_items l.self-inside.blocks);
  block : l.block ≤ l.last;
  place : l.place < l.self-inside.width;
  within : l.block * l.self-inside.width + l.place ≤ length (entries_in (vec_items l.self-inside.blocks));
  room : 0 < room_in (vec_items l.self-inside.blocks);
  same : insert (entries_in (vec_items l.self-inside.blocks)) (l.block * l.self-inside.width + l.place) l.carried ≡ insert l.fn.self.entries l.fn.rank l.fn.entry;
}

abbrev pub decreases-loop-block : goal.decreases-loop-block
decreases-loop-block g l = l.last - l.block
