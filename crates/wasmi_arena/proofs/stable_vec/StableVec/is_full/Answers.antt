use Rattle.std.proofs.Math.Nat.{not-le_of_lt}
use Rattle.wasmi_arena.proofs.LaidOut.{free-lt_max}
use Rattle.wasmi_arena.proofs.stable_vec.StableVec.is_full.Goals as goal

pub returns-then-self : goal.returns-then-self
returns-then-self g c = (λ never. cc, rw (← c.self.view_is) (λ full. absurd (not-le_of_lt (free-lt_max c.self.invariant c.if-self.true) full)))

pub returns : goal.returns
returns g c = rw (← c.self.view_is, ← c.self.invariant.items_counted) c.is_limit.ensures
