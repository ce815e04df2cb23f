use Rattle.wasmi_arena.proofs.Doubling.{slots-few, slots-zero}
use Rattle.wasmi_arena.proofs.LaidOut.{length-le_slots}
use Rattle.wasmi_arena.proofs.stable_vec.StableVec.slots.Goals as goal

pub returns-clause-enough : goal.returns-clause-enough
returns-clause-enough g c = rw (← c.self.view_is, c.self.invariant.slots_counted, c.self.invariant.fewest_open) (length-le_slots c.self.invariant)

pub returns-clause-few : goal.returns-clause-few
returns-clause-few g c =
    rw (← c.self.view_is, c.self.invariant.slots_counted, c.self.invariant.fewest_open, ← c.self.invariant.items_counted) (slots-few _ c.self.invariant.few_items)

pub returns-clause-none : goal.returns-clause-none
returns-clause-none g c = λ empty.
    rw (c.self.invariant.slots_counted, c.self.invariant.fewest_open, c.self.invariant.items_counted, c.self.view_is, empty) slots-zero

pub returns-clause-value : goal.returns-clause-value
returns-clause-value g c =
    rw (← c.self.view_is, ← c.self.invariant.items_counted, ← c.self.invariant.fewest_open) c.self.invariant.slots_counted
