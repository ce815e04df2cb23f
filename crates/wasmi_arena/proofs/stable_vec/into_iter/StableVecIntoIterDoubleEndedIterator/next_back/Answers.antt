use Rattle.std.proofs.Common.{◌∙◌, [], ◌∷◌, ◌++◌, Some, sym, ap, subst, arith, append_assoc}
use Rattle.std.specs.Array.Iter.{array_into_iter_items}
use Rattle.wasmi_arena.specs.inner.Ahead.{in_hand}
use Rattle.wasmi_arena.specs.inner.Table.{AreFilled}
use Rattle.wasmi_arena.proofs.Table.{ahead_fewer, filled_last_open}
use Rattle.wasmi_arena.proofs.Taken.{all_left, fewer_last, last_taken, last_taken_counted, last_taken_ahead, taken_before, taken_before_ahead}
use Rattle.wasmi_arena.proofs.Ahead.{progress_last}
use Rattle.wasmi_arena.proofs.stable_vec.into_iter.StableVecIntoIterDoubleEndedIterator.next_back.Goals as goal

pub invariant_of-self : goal.invariant_of-self
invariant_of-self g c = ahead_fewer c.self.invariant (omega arith) (fewer_last (in_hand c.self.inside.back) (in_hand c.last_of.new.items) (Some c.in-Some.item) c.in-Some.ensures)

pub returns-in-Some-clause-steps : goal.returns-in-Some-clause-steps
returns-in-Some-clause-steps g c = rw (← c.self.view_is, c.in-Some.ensures) (simp append_assoc)

pub returns-in-Some-clause-goes : goal.returns-in-Some-clause-goes
returns-in-Some-clause-goes g c = progress_last (λ x. x) all_left _ (λ _. tt) _ _ _ (returns-in-Some-clause-steps g c)

pub overflow_sub-self : goal.overflow_sub-self
overflow_sub-self g c =
    rw c.len.ensures (last_taken_counted _ (sym c.in-Some-Some.field-0-is) c.self.invariant c.into_items-items.ensures c.in-Some-Some.ensures.steps)

pub invariant_of-self-in-Some-Some : goal.invariant_of-self-in-Some-Some
invariant_of-self-in-Some-Some g c =
    last_taken_ahead _ (sym c.in-Some-Some.field-0-is) c.self.invariant c.into_items-items.ensures c.in-Some-Some.ensures.steps _ c.next_back-item.ensures.steps _ c.len.ensures

pub returns-in-Some-Some-clause-steps : goal.returns-in-Some-Some-clause-steps
returns-in-Some-Some-clause-steps g c =
    rw (← c.self.view_is) (last_taken _ (sym c.in-Some-Some.field-0-is) c.self.invariant c.into_items-items.ensures c.in-Some-Some.ensures.steps _ _ c.next_back-item.ensures.steps c.in_default.ensures.0)

pub returns-in-Some-Some-clause-goes : goal.returns-in-Some-Some-clause-goes
returns-in-Some-Some-clause-goes g c = progress_last (λ x. x) all_left _ (λ _. tt) _ _ _ (returns-in-Some-Some-clause-steps g c)

pub invariant_of-self-in-None : goal.invariant_of-self-in-None
invariant_of-self-in-None g c =
    taken_before_ahead _ _ c.self.invariant (ap array_into_iter_items c.in-None.ensures.steps.1) _ c.in_default.ensures.1 c.last_of-in-None.ensures

pub returns-in-None-clause-steps : goal.returns-in-None-clause-steps
returns-in-None-clause-steps g c =
    rw (← c.self.view_is) (taken_before _ _ c.self.invariant (ap array_into_iter_items c.in-None.ensures.steps.1) _ c.in_default.ensures.0 c.in_default.ensures.1 c.in-None.ensures.steps.0 c.last_of-in-None.ensures)

pub returns-in-None-clause-goes : goal.returns-in-None-clause-goes
returns-in-None-clause-goes g c = progress_last (λ x. x) all_left _ (λ _. tt) _ _ _ (returns-in-None-clause-steps g c)

pub unreachable-requires : goal.unreachable-requires
unreachable-requires g c =
    let left = array_into_iter_items c.next_back.new.self in
    filled_last_open left (subst AreFilled (c.in-Some-None.ensures.steps ∙ ap (λ b. left ++ b ∷ []) c.in-Some-None.field-0-is) c.self.invariant.filled)
