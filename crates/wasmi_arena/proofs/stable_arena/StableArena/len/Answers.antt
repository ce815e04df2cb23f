use Rattle.std.proofs.Common.{arith}
use Rattle.wasmi_arena.proofs.stable_arena.StableArena.len.Goals as goal

pub returns : goal.returns
returns g c = grind arith
