use Rattle.std.proofs.Common.{arith}
use Rattle.wasmi_arena.proofs.stable_arena.StableArena.put.Goals as goal

pub returns-in_err-there-clause-out_of_bounds : goal.returns-in_err-there-clause-out_of_bounds
returns-in_err-there-clause-out_of_bounds g c = grind arith

pub returns-clause-out_of_bounds : goal.returns-clause-out_of_bounds
returns-clause-out_of_bounds g c = grind arith
