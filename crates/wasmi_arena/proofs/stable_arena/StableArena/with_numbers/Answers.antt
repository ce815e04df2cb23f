use Rattle.std.proofs.Common.{arith}
use Rattle.wasmi_arena.proofs.stable_arena.StableArena.with_numbers.Goals as goal

pub returns : goal.returns
returns g c = grind arith
