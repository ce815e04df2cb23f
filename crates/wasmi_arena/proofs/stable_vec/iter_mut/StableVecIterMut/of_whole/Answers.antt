use Rattle.wasmi_arena.proofs.FilledParts.{parts_ahead}
use Rattle.wasmi_arena.proofs.stable_vec.iter_mut.StableVecIterMut.of_whole.Goals as goal

pub invariant_of-result : goal.invariant_of-result
invariant_of-result g c = rw c.of_open.ensures.parts (parts_ahead c.requires.buckets.few_items c.requires.len c.iter_mut.ensures.rest c.iter_mut-2.ensures.rest).0

pub returns-clause-items : goal.returns-clause-items
returns-clause-items g c = rw c.of_open.ensures.parts (parts_ahead c.requires.buckets.few_items c.requires.len c.iter_mut.ensures.rest c.iter_mut-2.ensures.rest).1
