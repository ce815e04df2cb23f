use Rattle.std.proofs.Common.{◌≡◌, List, ◌++◌, Option, Some, None, arith, ap, length, append-nil, append_assoc, ◌∙◌, Bor}
use Rattle.std.proofs.lemmas.List.{nil_from_length}
use Rattle.std.specs.Iterator.{YieldsLastRef}
use Rattle.std.specs.Slice.Iter.{iter_rest, iter_steps_back}
use Rattle.std.specs.declared.slice.Iter.{Iter}
use Rattle.wasmi_arena.specs.Bucket.{Bucket}
use Rattle.wasmi_arena.specs.inner.Table.{items_of}
use Rattle.wasmi_arena.proofs.Ahead.{progress_last}
use Rattle.wasmi_arena.proofs.Table.{ahead_fewer, last_open, last_counted, last_ahead, last_yields, length-steps_back}
use Rattle.wasmi_arena.proofs.stable_vec.iter.StableVecIterDoubleEndedIterator.next_back.Goals as goal

module _ {T : Type 0} where
  -- no bucket is left, and the front is called
  yields_before : (back : List T) (buckets : List (Option (Bucket T))) → length back ≡ 0 → length buckets ≡ 0 → (s t : Iter T) (r : Option (Bor T)) → iter_steps_back s r t
      → YieldsLastRef (λ (xs : List T). xs) (iter_rest s ++ items_of buckets ++ back) r (iter_rest t ++ items_of buckets ++ back)
  yields_before back buckets none no_buckets s t None ended =
      let nil = nil_from_length (iter_rest s) ended.0 in rw (nil_from_length back none, nil_from_length buckets no_buckets) (simp append-nil (nil, rw ended.1 nil))
  yields_before back buckets none no_buckets s t (Some x) at = rw (nil_from_length back none, nil_from_length buckets no_buckets) (simp append-nil at)

pub invariant_of-self : goal.invariant_of-self
invariant_of-self g c = ahead_fewer c.self.invariant (omega arith) (length-steps_back c.self.inside.back c.next_back.new.self (Some c.in-Some.item) c.in-Some.ensures.steps)

pub returns-in-Some-clause-steps : goal.returns-in-Some-clause-steps
returns-in-Some-clause-steps g c = rw (← c.self.view_is, c.in-Some.ensures.steps) (simp append_assoc)

pub returns-in-Some-clause-goes : goal.returns-in-Some-clause-goes
returns-in-Some-clause-goes g c = progress_last (λ (x : Bor g.row.T.Denot). x.now) (λ items. items) _ (λ _. tt) _ _ _ (returns-in-Some-clause-steps g c)

pub invariant_of-self-in_err-as_ref-in-Some-next_back : goal.invariant_of-self-in_err-as_ref-in-Some-next_back
invariant_of-self-in_err-as_ref-in-Some-next_back g c = absurd (last_open _ c.self.invariant.filled c.in-Some-next_back.ensures.steps c.in_err-as_ref-in-Some-next_back.ensures.value)

pub returns-in_err-as_ref-in-Some-next_back-clause-steps : goal.returns-in_err-as_ref-in-Some-next_back-clause-steps
returns-in_err-as_ref-in-Some-next_back-clause-steps g c = absurd (last_open _ c.self.invariant.filled c.in-Some-next_back.ensures.steps c.in_err-as_ref-in-Some-next_back.ensures.value)

pub returns-in_err-as_ref-in-Some-next_back-clause-goes : goal.returns-in_err-as_ref-in-Some-next_back-clause-goes
returns-in_err-as_ref-in-Some-next_back-clause-goes g c = absurd (last_open _ c.self.invariant.filled c.in-Some-next_back.ensures.steps c.in_err-as_ref-in-Some-next_back.ensures.value)

pub overflow_sub-self : goal.overflow_sub-self
overflow_sub-self g c =
    let counted = last_counted _ c.self.invariant c.in-Some-next_back.ensures.steps c.in_ok-as_ref-in-Some-next_back.ensures.value in
    rw c.slice-items.ensures (omega arith)

pub returns-in_ok-as_ref-in-Some-next_back-clause-steps : goal.returns-in_ok-as_ref-in-Some-next_back-clause-steps
returns-in_ok-as_ref-in-Some-next_back-clause-steps g c =
    rw (← c.self.view_is) (last_yields _ c.self.invariant c.in-Some-next_back.ensures.steps c.in_ok-as_ref-in-Some-next_back.ensures.value _ _ _ (c.iter-self-inside.ensures.rest ∙ c.slice-items.ensures) c.next_back-in-Some-next_back.ensures.steps c.in_default.ensures.steps.0)

pub invariant_of-self-in-Some-next_back : goal.invariant_of-self-in-Some-next_back
invariant_of-self-in-Some-next_back g c =
    let fewer = length-steps_back _ _ _ c.next_back-in-Some-next_back.ensures.steps in
    last_ahead _ c.self.invariant c.in-Some-next_back.ensures.steps c.in_ok-as_ref-in-Some-next_back.ensures.value _ _ (ap length c.slice-items.ensures) (omega (arith, ap length c.iter-self-inside.ensures.rest))

pub returns-in_ok-as_ref-in-Some-next_back-clause-goes : goal.returns-in_ok-as_ref-in-Some-next_back-clause-goes
returns-in_ok-as_ref-in-Some-next_back-clause-goes g c = progress_last (λ (x : Bor g.row.T.Denot). x.now) (λ items. items) _ (λ _. tt) _ _ _ (returns-in_ok-as_ref-in-Some-next_back-clause-steps g c)

pub invariant_of-self-in-None : goal.invariant_of-self-in-None
invariant_of-self-in-None g c =
    rw (c.in_default.ensures.steps.1, c.in-None.ensures.steps.1) (ahead_fewer c.self.invariant (length-steps_back _ _ _ c.next_back-in-None.ensures.steps) (omega arith))

pub returns-in-None-clause-steps : goal.returns-in-None-clause-steps
returns-in-None-clause-steps g c =
    rw (← c.self.view_is, c.in_default.ensures.steps.1, c.in-None.ensures.steps.1) (yields_before _ _ c.in_default.ensures.steps.0 c.in-None.ensures.steps.0 _ _ _ c.next_back-in-None.ensures.steps)

pub returns-in-None-clause-goes : goal.returns-in-None-clause-goes
returns-in-None-clause-goes g c = progress_last (λ (x : Bor g.row.T.Denot). x.now) (λ items. items) _ (λ _. tt) _ _ _ (returns-in-None-clause-steps g c)
