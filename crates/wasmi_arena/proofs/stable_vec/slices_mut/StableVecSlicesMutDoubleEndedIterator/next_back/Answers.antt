use Rattle.std.proofs.Common.{arith, Some, None, MutBor, ◌∷◌, [], ◌++◌, List, refl, sym, ap, ◌∙◌, map}
use Rattle.wasmi_arena.specs.IterMut.{left}
use Rattle.wasmi_arena.specs.inner.Table.{items_in}
use Rattle.wasmi_arena.proofs.Ahead.{progress_last}
use Rattle.wasmi_arena.proofs.Loans.{none_left, back_one, back_filled, front_left, back_last}
use Rattle.wasmi_arena.proofs.stable_vec.slices_mut.StableVecSlicesMutDoubleEndedIterator.next_back.Goals as goal

pub returns-then-self-eq0-clause-steps : goal.returns-then-self-eq0-clause-steps
returns-then-self-eq0-clause-steps g c =
    let none = none_left c.self.inside.loan c.self.invariant c.if-self-eq0.true in rw (← c.self.view_is) (none, none)

pub returns-then-self-eq0-clause-goes : goal.returns-then-self-eq0-clause-goes
returns-then-self-eq0-clause-goes g c = progress_last (λ (x : MutBor (List g.row.T.Denot)). x.now) left _ (λ _. tt) _ _ None (returns-then-self-eq0-clause-steps g c)

pub overflow_sub-self : goal.overflow_sub-self
overflow_sub-self g c = omega arith

pub invariant_of-self : goal.invariant_of-self
invariant_of-self g c = absurd (rw (← c.in_err-loan.ensures.value) at c.self.invariant)

pub returns-in_err-loan-clause-steps : goal.returns-in_err-loan-clause-steps
returns-in_err-loan-clause-steps g c = absurd (rw (← c.in_err-loan.ensures.value) at c.self.invariant)

pub returns-in_err-loan-clause-goes : goal.returns-in_err-loan-clause-goes
returns-in_err-loan-clause-goes g c = absurd (rw (← c.in_err-loan.ensures.value) at c.self.invariant)

pub cut-rest-requires : goal.cut-rest-requires
cut-rest-requires g c = let counted = (rw (← c.in_ok-loan.ensures.value) at c.self.invariant).0 in omega arith

pub into_slice-requires-clause-one : goal.into_slice-requires-clause-one
into_slice-requires-clause-one g c = back_one c.self.inside.loan _ c.self.invariant (sym c.in_ok-loan.ensures.value) c.cut-rest.ensures (omega arith) refl

pub into_slice-requires-clause-open : goal.into_slice-requires-clause-open
into_slice-requires-clause-open g c = back_filled c.self.inside.loan _ c.self.invariant (sym c.in_ok-loan.ensures.value) c.cut-rest.ensures

pub invariant_of-self-2 : goal.invariant_of-self-2
invariant_of-self-2 g c = front_left c.self.inside.loan _ c.self.invariant (sym c.in_ok-loan.ensures.value) c.cut-rest.ensures refl

pub returns-clause-steps : goal.returns-clause-steps
returns-clause-steps g c =
    ap left (sym c.self.view_is) ∙ (back_last c.self.inside.loan _ c.self.invariant (sym c.in_ok-loan.ensures.value) c.cut-rest.ensures (omega arith) refl
    ∙ ap (λ (xs : List g.row.T.Denot). map items_in c.cut-rest.result.0.buckets ++ xs ∷ []) (sym c.into_slice.ensures))

pub returns-clause-goes : goal.returns-clause-goes
returns-clause-goes g c = progress_last (λ (x : MutBor (List g.row.T.Denot)). x.now) left _ (λ _. tt) _ _ (Some c.into_slice.result) (returns-clause-steps g c)
