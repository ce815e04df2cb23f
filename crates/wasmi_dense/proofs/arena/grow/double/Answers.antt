use Rattle.std.proofs.Common.{arith}
use Rattle.wasmi_dense.proofs.ArenaGrowth.{fills_twice}
use Rattle.wasmi_dense.proofs.arena.grow.double.Goals as goal

pub returns-in_ok-reserve_exact-clause-block : goal.returns-in_ok-reserve_exact-clause-block
returns-in_ok-reserve_exact-clause-block g c =
    let larger = c.in_ok-reserve_exact.ensures.capacity_exact in let counted = c.in_ok-reserve_exact.ensures.len in let least = c.max.ensures in
    fills_twice _ _ (omega arith)
