use Rattle.std.proofs.Common.{arith}
use Rattle.wasmi_arena.proofs.stable_arena.StableArena.swap.Goals as goal

pub returns-clause-out_of_bounds : goal.returns-clause-out_of_bounds
returns-clause-out_of_bounds g c = rw (← c.self.view_is, ← c.into_usize.ensures.number, ← c.into_usize-2.ensures.number) c.swap.ensures.out_of_bounds

pub returns-clause-aliasing : goal.returns-clause-aliasing
returns-clause-aliasing g c = grind arith
