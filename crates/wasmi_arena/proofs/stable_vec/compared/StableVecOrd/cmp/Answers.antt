use Rattle.wasmi_arena.proofs.Compared.{cmp_of_parts}
use Rattle.wasmi_arena.proofs.stable_vec.compared.StableVecOrd.cmp.Goals as goal

pub returns : goal.returns
returns g c = cmp_of_parts g.T.Ord.cmp _ _ c.slices.ensures.bound c.slices-2.ensures.bound (rw (c.slices.ensures.parts, c.slices-2.ensures.parts) at c.cmp.ensures.ran)
