use Rattle.wasmi_arena.proofs.Compared.{partial_cmp_of_parts}
use Rattle.wasmi_arena.proofs.stable_vec.compared.StableVecPartialOrd.partial_cmp.Goals as goal

pub returns : goal.returns
returns g c = partial_cmp_of_parts g.T.PartialOrd.partial_cmp _ _ c.slices.ensures.bound c.slices-2.ensures.bound (rw (c.slices.ensures.parts, c.slices-2.ensures.parts) at c.partial_cmp.ensures.ran)
