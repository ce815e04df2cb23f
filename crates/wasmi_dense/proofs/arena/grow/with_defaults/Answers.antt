use Rattle.std.proofs.Common.{arith}
use Rattle.wasmi_arena.proofs.Growth.{many_next}
use Rattle.wasmi_dense.proofs.arena.grow.with_defaults.Goals as goal

pub loop-preserved : goal.loop-preserved
loop-preserved g c = record {
  values = rw c.push_reserved.ensures.items (many_next g.T.Default.is_default _ c.loop.invariant.values c.default.ensures);
  counted = omega arith;
  fits = omega arith;
  in_block = omega arith;
}
