use Rattle.wasmi_arena.proofs.LaidOut.{IsLaidOut-none}
use Rattle.wasmi_arena.proofs.stable_vec.StableVec.clear.Goals as goal

pub invariant_of-self : goal.invariant_of-self
invariant_of-self g c = let made = c.new.ensures in (IsLaidOut-none c.new.result.buckets made.long made.closed).0

pub returns : goal.returns
returns g c = let made = c.new.ensures in (IsLaidOut-none c.new.result.buckets made.long made.closed).1
