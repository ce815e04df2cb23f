use Rattle.std.proofs.Common.{arith}
use Rattle.std.proofs.lemmas.List.{length-take}
use Rattle.wasmi_arena.proofs.LaidOut.{all_ahead, open-le_27}
use Rattle.wasmi_arena.proofs.stable_vec.StableVec.iter.Goals as goal

pub slice_bounds-iter-end : goal.slice_bounds-iter-end
slice_bounds-iter-end g c =
    let few = open-le_27 c.self.invariant in let counted = c.self.invariant.buckets_counted in
    omega (arith, length-take c.self.inside.open_buckets c.self.inside.table.buckets)

pub invariant_of-result : goal.invariant_of-result
invariant_of-result g c = rw c.iter-2.ensures.rest (all_ahead c.self.invariant _ _ c.iter.ensures.rest c.iter-3.ensures.rest).0

pub returns-clause-items : goal.returns-clause-items
returns-clause-items g c = rw (c.iter-2.ensures.rest, ← c.self.view_is) (all_ahead c.self.invariant _ _ c.iter.ensures.rest c.iter-3.ensures.rest).1

pub returns-clause-bound : goal.returns-clause-bound
returns-clause-bound g c = rw (← c.self.view_is, ← c.self.invariant.items_counted) c.self.invariant.few_items
