use Rattle.std.proofs.Common.{◌≡◌, List, ◌++◌, Option, Some, None, arith, ap, length, ◌∙◌, Bor}
use Rattle.std.proofs.lemmas.List.{nil_from_length}
use Rattle.std.specs.Iterator.{YieldsFirstRef}
use Rattle.std.specs.Slice.Iter.{iter_rest, iter_steps}
use Rattle.std.specs.declared.slice.Iter.{Iter}
use Rattle.wasmi_arena.specs.Bucket.{Bucket}
use Rattle.wasmi_arena.specs.inner.Table.{items_of}
use Rattle.wasmi_arena.proofs.Ahead.{progress_first}
use Rattle.wasmi_arena.proofs.Table.{ahead_fewer, first_open, first_counted, first_ahead, first_yields, length-steps}
use Rattle.wasmi_arena.proofs.stable_vec.iter.StableVecIterIterator.next.Goals as goal

module _ {T : Type 0} where
  -- no bucket is left, and the back is called
  yields_behind : (front : List T) (buckets : List (Option (Bucket T))) → length front ≡ 0 → length buckets ≡ 0 → (s t : Iter T) (r : Option (Bor T)) → iter_steps s r t
      → YieldsFirstRef (λ (xs : List T). xs) (front ++ items_of buckets ++ iter_rest s) r (front ++ items_of buckets ++ iter_rest t)
  yields_behind front buckets none no_buckets s t None ended =
      let nil = nil_from_length (iter_rest s) ended.0 in rw (nil_from_length front none, nil_from_length buckets no_buckets) (nil, rw ended.1 nil)
  yields_behind front buckets none no_buckets s t (Some x) at = rw (nil_from_length front none, nil_from_length buckets no_buckets) at

pub invariant_of-self : goal.invariant_of-self
invariant_of-self g c = ahead_fewer c.self.invariant (omega (arith, ap length c.in-Some.ensures.steps)) (omega arith)

pub returns-in-Some-clause-steps : goal.returns-in-Some-clause-steps
returns-in-Some-clause-steps g c = rw (← c.self.view_is, c.in-Some.ensures.steps)

pub returns-in-Some-clause-goes : goal.returns-in-Some-clause-goes
returns-in-Some-clause-goes g c = progress_first (λ (x : Bor g.row.T.Denot). x.now) (λ items. items) _ (λ _. tt) _ _ _ (returns-in-Some-clause-steps g c)

pub invariant_of-self-in_err-as_ref-in-Some-next : goal.invariant_of-self-in_err-as_ref-in-Some-next
invariant_of-self-in_err-as_ref-in-Some-next g c = absurd (first_open c.self.invariant.filled c.in-Some-next.ensures.steps c.in_err-as_ref-in-Some-next.ensures.value)

pub returns-in_err-as_ref-in-Some-next-clause-steps : goal.returns-in_err-as_ref-in-Some-next-clause-steps
returns-in_err-as_ref-in-Some-next-clause-steps g c = absurd (first_open c.self.invariant.filled c.in-Some-next.ensures.steps c.in_err-as_ref-in-Some-next.ensures.value)

pub returns-in_err-as_ref-in-Some-next-clause-goes : goal.returns-in_err-as_ref-in-Some-next-clause-goes
returns-in_err-as_ref-in-Some-next-clause-goes g c = absurd (first_open c.self.invariant.filled c.in-Some-next.ensures.steps c.in_err-as_ref-in-Some-next.ensures.value)

pub overflow_sub-self : goal.overflow_sub-self
overflow_sub-self g c =
    let counted = first_counted c.self.invariant c.in-Some-next.ensures.steps c.in_ok-as_ref-in-Some-next.ensures.value in
    rw c.slice-items.ensures (omega arith)

pub invariant_of-self-in-Some-next : goal.invariant_of-self-in-Some-next
invariant_of-self-in-Some-next g c =
    let fewer = length-steps _ _ _ c.next-in-Some-next.ensures.steps in
    first_ahead c.self.invariant c.in-Some-next.ensures.steps c.in_ok-as_ref-in-Some-next.ensures.value _ _ (ap length c.slice-items.ensures) (omega (arith, ap length c.iter-self-inside.ensures.rest))

pub invariant_of-self-in-None : goal.invariant_of-self-in-None
invariant_of-self-in-None g c =
    rw (c.in_default.ensures.steps.1, c.in-None.ensures.steps.1) (ahead_fewer c.self.invariant (omega arith) (length-steps _ _ _ c.next-in-None.ensures.steps))

pub returns-in_ok-as_ref-in-Some-next-clause-steps : goal.returns-in_ok-as_ref-in-Some-next-clause-steps
returns-in_ok-as_ref-in-Some-next-clause-steps g c =
    rw (← c.self.view_is) (first_yields c.self.invariant c.in-Some-next.ensures.steps c.in_ok-as_ref-in-Some-next.ensures.value _ _ _ (c.iter-self-inside.ensures.rest ∙ c.slice-items.ensures) c.next-in-Some-next.ensures.steps c.in_default.ensures.steps.0)

pub returns-in_ok-as_ref-in-Some-next-clause-goes : goal.returns-in_ok-as_ref-in-Some-next-clause-goes
returns-in_ok-as_ref-in-Some-next-clause-goes g c = progress_first (λ (x : Bor g.row.T.Denot). x.now) (λ items. items) _ (λ _. tt) _ _ _ (returns-in_ok-as_ref-in-Some-next-clause-steps g c)

pub returns-in-None-clause-steps : goal.returns-in-None-clause-steps
returns-in-None-clause-steps g c =
    rw (← c.self.view_is, c.in_default.ensures.steps.1, c.in-None.ensures.steps.1) (yields_behind _ _ c.in_default.ensures.steps.0 c.in-None.ensures.steps.0 _ _ _ c.next-in-None.ensures.steps)

pub returns-in-None-clause-goes : goal.returns-in-None-clause-goes
returns-in-None-clause-goes g c = progress_first (λ (x : Bor g.row.T.Denot). x.now) (λ items. items) _ (λ _. tt) _ _ _ (returns-in-None-clause-steps g c)
