use Rattle.std.proofs.Common.{Some, sym, ap, arith}
use Rattle.std.specs.Array.Iter.{array_into_iter_items}
use Rattle.wasmi_arena.specs.inner.Ahead.{in_hand}
use Rattle.wasmi_arena.proofs.Table.{ahead_fewer}
use Rattle.wasmi_arena.proofs.Taken.{all_left, fewer_first, first_taken, first_taken_counted, first_taken_ahead, taken_behind, taken_behind_ahead}
use Rattle.wasmi_arena.proofs.Ahead.{progress_first}
use Rattle.wasmi_arena.proofs.stable_vec.into_iter.StableVecIntoIterIterator.next.Goals as goal

pub invariant_of-self : goal.invariant_of-self
invariant_of-self g c = ahead_fewer c.self.invariant (fewer_first (in_hand c.self.inside.front) (in_hand c.first_of.new.items) (Some c.in-Some.item) c.in-Some.ensures) (omega arith)

pub returns-in-Some-clause-steps : goal.returns-in-Some-clause-steps
returns-in-Some-clause-steps g c = rw (← c.self.view_is, c.in-Some.ensures)

pub returns-in-Some-clause-goes : goal.returns-in-Some-clause-goes
returns-in-Some-clause-goes g c = progress_first (λ x. x) all_left _ (λ _. tt) _ _ _ (returns-in-Some-clause-steps g c)

pub overflow_sub-self : goal.overflow_sub-self
overflow_sub-self g c =
    rw c.len.ensures (first_taken_counted _ (sym c.in-Some-Some.field-0-is) c.self.invariant c.into_items-items.ensures c.in-Some-Some.ensures.steps)

pub invariant_of-self-in-Some-Some : goal.invariant_of-self-in-Some-Some
invariant_of-self-in-Some-Some g c =
    first_taken_ahead _ (sym c.in-Some-Some.field-0-is) c.self.invariant c.into_items-items.ensures c.in-Some-Some.ensures.steps _ c.next-item.ensures.steps _ c.len.ensures

pub returns-in-Some-Some-clause-steps : goal.returns-in-Some-Some-clause-steps
returns-in-Some-Some-clause-steps g c =
    rw (← c.self.view_is) (first_taken _ (sym c.in-Some-Some.field-0-is) c.self.invariant c.into_items-items.ensures c.in-Some-Some.ensures.steps _ _ c.next-item.ensures.steps c.in_default.ensures.0)

pub returns-in-Some-Some-clause-goes : goal.returns-in-Some-Some-clause-goes
returns-in-Some-Some-clause-goes g c = progress_first (λ x. x) all_left _ (λ _. tt) _ _ _ (returns-in-Some-Some-clause-steps g c)

pub invariant_of-self-in-None : goal.invariant_of-self-in-None
invariant_of-self-in-None g c =
    taken_behind_ahead _ _ c.self.invariant (ap array_into_iter_items c.in-None.ensures.steps.1) _ c.in_default.ensures.1 c.first_of-in-None.ensures

pub returns-in-None-clause-steps : goal.returns-in-None-clause-steps
returns-in-None-clause-steps g c =
    rw (← c.self.view_is) (taken_behind _ _ c.self.invariant (ap array_into_iter_items c.in-None.ensures.steps.1) _ c.in_default.ensures.0 c.in_default.ensures.1 c.in-None.ensures.steps.0 c.first_of-in-None.ensures)

pub returns-in-None-clause-goes : goal.returns-in-None-clause-goes
returns-in-None-clause-goes g c = progress_first (λ x. x) all_left _ (λ _. tt) _ _ _ (returns-in-None-clause-steps g c)

pub unreachable-requires : goal.unreachable-requires
unreachable-requires g c = rw (c.in-Some-None.ensures.steps, c.in-Some-None.field-0-is) at c.self.invariant.filled
