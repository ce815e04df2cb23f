use Rattle.std.proofs.Common.{List, Some, ap, map, Bor}
use Rattle.std.proofs.lemmas.List.{nil_from_length}
use Rattle.wasmi_arena.specs.inner.Table.{items_in}
use Rattle.wasmi_arena.proofs.Ahead.{progress_first}
use Rattle.wasmi_arena.proofs.Table.{first_open}
use Rattle.wasmi_arena.proofs.stable_vec.slices.StableVecSlicesIterator.next.Goals as goal

pub invariant_of-self : goal.invariant_of-self
invariant_of-self g c = rw c.in_err-bucket.ensures.steps.1 c.self.invariant

pub returns-in_err-bucket-clause-steps : goal.returns-in_err-bucket-clause-steps
returns-in_err-bucket-clause-steps g c =
    let none = ap (map items_in) (nil_from_length _ c.in_err-bucket.ensures.steps.0) in
    rw (c.from_residual.ensures, ← c.self.view_is, c.in_err-bucket.ensures.steps.1) (none, none)

pub returns-in_err-bucket-clause-goes : goal.returns-in_err-bucket-clause-goes
returns-in_err-bucket-clause-goes g c = progress_first (λ (x : Bor (List g.row.T.Denot)). x.now) (λ parts. parts) _ (λ _. tt) _ _ _ (returns-in_err-bucket-clause-steps g c)

pub invariant_of-self-in_err-as_ref : goal.invariant_of-self-in_err-as_ref
invariant_of-self-in_err-as_ref g c = absurd (first_open c.self.invariant c.in_ok-bucket.ensures.steps c.in_err-as_ref.ensures.value)

pub returns-in_err-as_ref-clause-steps : goal.returns-in_err-as_ref-clause-steps
returns-in_err-as_ref-clause-steps g c = absurd (first_open c.self.invariant c.in_ok-bucket.ensures.steps c.in_err-as_ref.ensures.value)

pub returns-in_err-as_ref-clause-goes : goal.returns-in_err-as_ref-clause-goes
returns-in_err-as_ref-clause-goes g c = absurd (first_open c.self.invariant c.in_ok-bucket.ensures.steps c.in_err-as_ref.ensures.value)

pub invariant_of-self-2 : goal.invariant_of-self-2
invariant_of-self-2 g c = (rw (c.in_ok-bucket.ensures.steps, ← c.in_ok-as_ref.ensures.value) at c.self.invariant).1

pub returns-clause-steps : goal.returns-clause-steps
returns-clause-steps g c = rw (← c.self.view_is, c.in_ok-bucket.ensures.steps, ← c.in_ok-as_ref.ensures.value, c.slice.ensures)

pub returns-clause-goes : goal.returns-clause-goes
returns-clause-goes g c = progress_first (λ (x : Bor (List g.row.T.Denot)). x.now) (λ parts. parts) _ (λ _. tt) _ _ (Some c.slice.result) (returns-clause-steps g c)
