use Rattle.std.proofs.Common.{Some, arith, ap, sym, length, append_assoc, refl, ◌∙◌, MutBor}
use Rattle.std.specs.Slice.Iter.{iter_mut_rest}
use Rattle.wasmi_arena.specs.IterMut.{left}
use Rattle.wasmi_arena.proofs.Ahead.{ahead_fewer, last_counted, last_ahead, last_yields, yields_before, fewer_last, progress_last}
use Rattle.wasmi_arena.proofs.stable_vec.iter_mut.StableVecIterMutDoubleEndedIterator.next_back.Goals as goal

pub invariant_of-self : goal.invariant_of-self
invariant_of-self g c =
    ahead_fewer c.self.invariant (omega arith) (fewer_last (λ (x : MutBor g.row.T.Denot). x.now) (iter_mut_rest c.self.inside.back) (iter_mut_rest c.next_back.new.self) (Some c.in-Some.item) c.in-Some.ensures.steps)

pub returns-in-Some-clause-steps : goal.returns-in-Some-clause-steps
returns-in-Some-clause-steps g c = rw (← c.self.view_is, c.in-Some.ensures.steps) (simp append_assoc)

pub returns-in-Some-clause-goes : goal.returns-in-Some-clause-goes
returns-in-Some-clause-goes g c = progress_last (λ (x : MutBor g.row.T.Denot). x.now) left _ (λ _. tt) _ _ _ (returns-in-Some-clause-steps g c)

pub overflow_sub-self : goal.overflow_sub-self
overflow_sub-self g c = let counted = last_counted _ _ c.self.invariant c.in-Some-next_back.ensures.steps in omega arith

pub invariant_of-self-in-Some-next_back : goal.invariant_of-self-in-Some-next_back
invariant_of-self-in-Some-next_back g c =
    let fewer = fewer_last (λ (x : MutBor g.row.T.Denot). x.now) _ _ _ c.next_back-in-Some-next_back.ensures.steps in
    last_ahead _ _ c.self.invariant c.in-Some-next_back.ensures.steps _ _ refl (omega (arith, fewer, ap length c.iter_mut-self-inside.ensures.rest))

pub returns-in-Some-next_back-clause-steps : goal.returns-in-Some-next_back-clause-steps
returns-in-Some-next_back-clause-steps g c =
    rw (← c.self.view_is) (last_yields _ _ c.self.invariant c.in-Some-next_back.ensures.steps (λ (x : MutBor g.row.T.Denot). x.now) c.next_back-in-Some-next_back.result _ c.in_default.ensures.steps.0
    (rw c.iter_mut-self-inside.ensures.rest at c.next_back-in-Some-next_back.ensures.steps))

pub returns-in-Some-next_back-clause-goes : goal.returns-in-Some-next_back-clause-goes
returns-in-Some-next_back-clause-goes g c = progress_last (λ (x : MutBor g.row.T.Denot). x.now) left _ (λ _. tt) _ _ _ (returns-in-Some-next_back-clause-steps g c)

pub invariant_of-self-in-None : goal.invariant_of-self-in-None
invariant_of-self-in-None g c =
    rw (c.in-None.ensures.steps.1 ∙ sym c.in-None.ensures.steps.0) (ahead_fewer c.self.invariant (fewer_last (λ (x : MutBor g.row.T.Denot). x.now) _ _ _ c.next_back-in-None.ensures.steps) (omega (arith, c.in_default.ensures.steps.1)))

pub returns-in-None-clause-steps : goal.returns-in-None-clause-steps
returns-in-None-clause-steps g c =
    rw (← c.self.view_is) (yields_before (λ (x : MutBor g.row.T.Denot). x.now) _ _ _ _ _ _ c.in-None.ensures.steps.0 c.in-None.ensures.steps.1 c.in_default.ensures.steps.1 c.next_back-in-None.result c.in_default.ensures.steps.0 c.next_back-in-None.ensures.steps)

pub returns-in-None-clause-goes : goal.returns-in-None-clause-goes
returns-in-None-clause-goes g c = progress_last (λ (x : MutBor g.row.T.Denot). x.now) left _ (λ _. tt) _ _ _ (returns-in-None-clause-steps g c)
