use Rattle.std.proofs.Common.{◌≡◌, ◌≤◌, length}
use Rattle.std.specs.Slice.Iter.{iter_rest}
use Rattle.wasmi_dense.specs.ComponentEntries.{components_from}
use Rattle.wasmi_dense.proofs.component_vec.iter.last_of.Given as goal

abbrev pub invariant-loop-slot : goal.invariant-loop-slot
invariant-loop-slot g l = let keys = g.Key.ArenaKey.keys in
    (components_from keys l.next (iter_rest l.slots) ≡ components_from keys l.next (iter_rest l.initial.slots))
    × (length (iter_rest l.slots) ≤ length (iter_rest l.initial.slots))

abbrev pub decreases-loop-slot : goal.decreases-loop-slot
decreases-loop-slot g l = length (iter_rest l.slots)
