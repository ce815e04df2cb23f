use Rattle.std.proofs.Common.{◌≡◌, ◌+◌, length}
use Rattle.std.specs.Slice.Iter.{iter_mut_rest}
use Rattle.wasmi_dense.specs.ComponentEntries.{components_from}
use Rattle.wasmi_dense.proofs.component_vec.iter_mut.first_of.Given as goal

abbrev pub invariant-loop-next : goal.invariant-loop-next
invariant-loop-next g l = let keys = g.Key.ArenaKey.keys in
    (components_from keys l.next (iter_mut_rest l.slots) ≡ components_from keys l.initial.next (iter_mut_rest l.initial.slots))
    × (l.next + length (iter_mut_rest l.slots) ≡ l.initial.next + length (iter_mut_rest l.initial.slots))

abbrev pub decreases-loop-next : goal.decreases-loop-next
decreases-loop-next g l = length (iter_mut_rest l.slots)
