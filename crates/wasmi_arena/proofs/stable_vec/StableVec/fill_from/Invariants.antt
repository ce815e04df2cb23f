use Rattle.std.proofs.Common.{◌≡◌, ◌+◌, ◌-◌, ◌<◌, ◌≤◌, length}
use Rattle.wasmi_arena.specs.Geometry.{fewest, room}
use Rattle.wasmi_arena.specs.Growth.{AppendsMany}
use Rattle.wasmi_arena.specs.inner.Apart.{AreOpenApart}
use Rattle.wasmi_arena.proofs.stable_vec.StableVec.fill_from.Given as goal

-- all but those that are left are in, no slot is free for these, and the buckets for them are open
abbrev pub invariant-loop-left : goal.invariant-loop-left
invariant-loop-left g l = record {
  within : l.left ≤ l.amount;
  items : AppendsMany g.T.Default.is_default (l.amount - l.left) l.fn.self l.self;
  apart : AreOpenApart l.apart (fewest (length l.self)) (fewest (length l.fn.self + l.amount));
  full : 0 < l.left → room (length l.self) ≡ 0;
}

abbrev pub decreases-loop-left : goal.decreases-loop-left
decreases-loop-left g l = l.left
