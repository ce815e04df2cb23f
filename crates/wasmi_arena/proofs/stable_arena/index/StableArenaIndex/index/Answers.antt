use Rattle.std.proofs.Common.{Err, ap}
use Rattle.std.proofs.Math.Nat.{not-le_of_lt}
use Rattle.wasmi_arena.proofs.stable_arena.index.StableArenaIndex.index.Goals as goal

pub unreachable-requires : goal.unreachable-requires
unreachable-requires g c = not-le_of_lt c.requires (c.in-Err.ensures.out_of_bounds.0 (ap Err c.in-Err.ensures.errors))

pub returns : goal.returns
returns g c = c.in-Ok.ensures.item
