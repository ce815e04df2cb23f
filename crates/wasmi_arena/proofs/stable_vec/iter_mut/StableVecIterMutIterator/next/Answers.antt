use Rattle.std.proofs.Common.{arith, ap, sym, length, ◌∙◌, MutBor}
use Rattle.wasmi_arena.specs.IterMut.{left}
use Rattle.wasmi_arena.proofs.Ahead.{ahead_fewer, first_counted, first_ahead, first_yields, yields_behind, fewer_first, progress_first}
use Rattle.wasmi_arena.proofs.stable_vec.iter_mut.StableVecIterMutIterator.next.Goals as goal

pub invariant_of-self : goal.invariant_of-self
invariant_of-self g c = ahead_fewer c.self.invariant (omega (arith, ap length c.in-Some.ensures.steps)) (omega arith)

pub returns-in-Some-clause-steps : goal.returns-in-Some-clause-steps
returns-in-Some-clause-steps g c = rw (← c.self.view_is, c.in-Some.ensures.steps)

pub returns-in-Some-clause-goes : goal.returns-in-Some-clause-goes
returns-in-Some-clause-goes g c = progress_first (λ (x : MutBor g.row.T.Denot). x.now) left _ (λ _. tt) _ _ _ (returns-in-Some-clause-steps g c)

pub overflow_sub-self : goal.overflow_sub-self
overflow_sub-self g c = let counted = first_counted c.self.invariant c.in-Some-next.ensures.steps in omega arith

pub invariant_of-self-in-Some-next : goal.invariant_of-self-in-Some-next
invariant_of-self-in-Some-next g c =
    first_ahead c.self.invariant c.in-Some-next.ensures.steps (fewer_first (λ (x : MutBor g.row.T.Denot). x.now) _ _ _ (rw c.iter_mut-self-inside.ensures.rest at c.next-in-Some-next.ensures.steps))

pub returns-in-Some-next-clause-steps : goal.returns-in-Some-next-clause-steps
returns-in-Some-next-clause-steps g c =
    rw (← c.self.view_is) (first_yields c.self.invariant c.in-Some-next.ensures.steps (λ (x : MutBor g.row.T.Denot). x.now) c.next-in-Some-next.result _ c.in_default.ensures.steps.0
    (rw c.iter_mut-self-inside.ensures.rest at c.next-in-Some-next.ensures.steps))

pub returns-in-Some-next-clause-goes : goal.returns-in-Some-next-clause-goes
returns-in-Some-next-clause-goes g c = progress_first (λ (x : MutBor g.row.T.Denot). x.now) left _ (λ _. tt) _ _ _ (returns-in-Some-next-clause-steps g c)

pub invariant_of-self-in-None : goal.invariant_of-self-in-None
invariant_of-self-in-None g c =
    rw (c.in-None.ensures.steps.1 ∙ sym c.in-None.ensures.steps.0) (ahead_fewer c.self.invariant (omega (arith, c.in_default.ensures.steps.1)) (fewer_first (λ (x : MutBor g.row.T.Denot). x.now) _ _ _ c.next-in-None.ensures.steps))

pub returns-in-None-clause-steps : goal.returns-in-None-clause-steps
returns-in-None-clause-steps g c =
    rw (← c.self.view_is) (yields_behind (λ (x : MutBor g.row.T.Denot). x.now) _ _ _ _ _ _ c.in-None.ensures.steps.0 c.in-None.ensures.steps.1 c.in_default.ensures.steps.1 c.next-in-None.result c.in_default.ensures.steps.0 c.next-in-None.ensures.steps)

pub returns-in-None-clause-goes : goal.returns-in-None-clause-goes
returns-in-None-clause-goes g c = progress_first (λ (x : MutBor g.row.T.Denot). x.now) left _ (λ _. tt) _ _ _ (returns-in-None-clause-steps g c)
