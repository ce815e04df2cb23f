use Rattle.std.proofs.Common.{arith}
use Rattle.std.proofs.lemmas.List.{length-take}
use Rattle.wasmi_arena.proofs.LaidOut.{open-le_27}
use Rattle.wasmi_arena.proofs.FilledParts.{parts_open}
use Rattle.wasmi_arena.proofs.stable_vec.StableVec.slices.Goals as goal

pub slice_bounds-open-end : goal.slice_bounds-open-end
slice_bounds-open-end g c =
    let few = open-le_27 c.self.invariant in let counted = c.self.invariant.buckets_counted in
    omega (arith, length-take c.self.inside.open_buckets c.self.inside.table.buckets)

pub invariant_of-result : goal.invariant_of-result
invariant_of-result g c = rw c.iter.ensures.rest (parts_open c.self.invariant).0

pub returns-clause-parts : goal.returns-clause-parts
returns-clause-parts g c = rw (c.iter.ensures.rest, ← c.self.view_is) (parts_open c.self.invariant).1

pub returns-clause-bound : goal.returns-clause-bound
returns-clause-bound g c = rw (← c.self.view_is, ← c.self.invariant.items_counted) c.self.invariant.few_items
