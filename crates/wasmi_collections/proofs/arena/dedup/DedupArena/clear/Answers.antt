use Rattle.std.proofs.Common.{refl, arith}
use Rattle.wasmi_collections.proofs.Dedup.{IsIndex-nil}
use Rattle.wasmi_collections.proofs.arena.dedup.DedupArena.clear.Goals as goal

pub invariant_of-self : goal.invariant_of-self
invariant_of-self g c = rw (c.clear-2.ensures, c.clear.ensures.items) (IsIndex-nil g.Key.ArenaKey.keys g.T.PartialEq.eq, refl, omega arith)
