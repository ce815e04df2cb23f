use Rattle.std.proofs.Common.{arith}
use Rattle.wasmi_arena.proofs.Table.{length-ahead}
use Rattle.wasmi_arena.proofs.stable_vec.into_iter.StableVecIntoIter.len.Goals as goal

pub overflow_add-result : goal.overflow_add-result
overflow_add-result g c = omega arith

pub overflow_add-result-2 : goal.overflow_add-result-2
overflow_add-result-2 g c = omega arith

pub returns : goal.returns
returns g c = rw (c.count_of.ensures, c.count_of-2.ensures, ← c.self.view_is) (length-ahead c.self.invariant)
