use Rattle.std.proofs.Common.{[]}
use Rattle.std.specs.Iterator.{size}
use Rattle.wasmi_arena.proofs.Yielded.{TakenSoFar}
use Rattle.wasmi_arena.proofs.stable_arena.StableArena.from_iter.Given as goal

-- what came so far is in
abbrev pub invariant-loop-item : goal.invariant-loop-item
invariant-loop-item g l = TakenSoFar g.U.IntoIterator.into_iter_gives g.U.IntoIter.Iterator.next_gives g.U.IntoIter.Iterator.can_next g.U.IntoIter.Iterator.remaining l.fn.iter l.items [] l.arena

abbrev pub decreases-loop-item : goal.decreases-loop-item
decreases-loop-item g l = size (g.U.IntoIter.Iterator.remaining l.items)
