use Rattle.std.proofs.Common.{◌+◌, length, ap, arith, ◌∙◌}
use Rattle.std.specs.Slice.Iter.{iter_rest}
use Rattle.wasmi_dense.specs.ComponentEntries.{component_under}
use Rattle.wasmi_dense.proofs.ComponentEntries.{component_under-no_key, components_from_passed}
use Rattle.wasmi_dense.proofs.component_vec.iter.last_of.Goals as goal

pub loop-slot-preserved-in_default-from_usize : goal.loop-slot-preserved-in_default-from_usize
loop-slot-preserved-in_default-from_usize g c =
    let keys = g.Key.ArenaKey.keys in let new = iter_rest c.next_back.new.self in
    let passed = components_from_passed keys c.args.next (iter_rest c.loop-slot.slots) new c.in-Some.slot.now c.in-Some.ensures.steps (component_under-no_key keys (c.args.next + length new) c.in-Some.slot.now (rw (← c.len.ensures.value) c.in_default-from_usize.ensures)) in
    (passed.0 ∙ c.loop-slot.invariant.0, omega (arith, passed.1, c.loop-slot.invariant.1))

pub loop-slot-preserved : goal.loop-slot-preserved
loop-slot-preserved g c =
    let keys = g.Key.ArenaKey.keys in let new = iter_rest c.next_back.new.self in
    let passed = components_from_passed keys c.args.next (iter_rest c.loop-slot.slots) new c.in-Some.slot.now c.in-Some.ensures.steps (ap (component_under keys (c.args.next + length new)) c.in_default-slot.is) in
    (passed.0 ∙ c.loop-slot.invariant.0, omega (arith, passed.1, c.loop-slot.invariant.1))
