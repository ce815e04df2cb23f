use Rattle.std.proofs.Common.{length, inl, inr}
use Rattle.std.proofs.Math.Nat.{lt_of_le_of_lt}
use Rattle.std.proofs.lemmas.Bool.{cases_lt, false≢true}
use Rattle.wasmi_arena.specs.Geometry.{max_len}
use Rattle.wasmi_arena.proofs.Growth.{refuses_one_more}
use Rattle.wasmi_arena.proofs.Yielded.{taken_none, taken_up_to, taken_more, taken_last, taken_all}
use Rattle.wasmi_arena.proofs.Results.{err_returned, same_error}
use Rattle.wasmi_arena.proofs.stable_vec.StableVec.extend.Goals as goal

pub returns-in_err-push-clause-without_size : goal.returns-in_err-push-clause-without_size
returns-in_err-push-clause-without_size g c = λ none infallible.
    elim (cases_lt (length c.loop-item.self) max_len) [
      | inl below ↦ absurd (false≢true (c.in_err-push.ensures.without_size below none infallible))
      | inr full ↦ rw (err_returned _ c.from_residual.ensures.1) (same_error (c.in_err-push.ensures.full.1 full))
    ]

pub loop-item-preserved : goal.loop-item-preserved
loop-item-preserved g c =
    let more = c.in-Some-fill_last_from.ensures in
    taken_more g.U.IntoIterator.into_iter_gives g.U.IntoIter.Iterator.next_gives g.U.IntoIter.Iterator.can_next g.U.IntoIter.Iterator.remaining c.loop-item.invariant c.in-Some.ensures.steps c.in_ok-push.ensures.ok
    c.in-Some-fill_last_from.rest more.items more.goes.0 more.goes.1.0

pub returns-in-None-clause-ok : goal.returns-in-None-clause-ok
returns-in-None-clause-ok g c =
    taken_last g.U.IntoIterator.into_iter_gives g.U.IntoIter.Iterator.next_gives g.U.IntoIter.Iterator.can_next g.U.IntoIter.Iterator.remaining c.loop-item.invariant c.in-Some.ensures.steps c.in_ok-push.ensures.ok c.in-None.ensures.items

pub loop-item-init : goal.loop-item-init
loop-item-init g c =
    taken_none g.U.IntoIterator.into_iter_gives g.U.IntoIter.Iterator.next_gives g.U.IntoIter.Iterator.can_next g.U.IntoIter.Iterator.remaining c.into_iter-items.ensures.into_iter_gives (c.requires _ c.into_iter-items.ensures.into_iter_gives)

pub returns-in_err-push-clause-err : goal.returns-in_err-push-clause-err
returns-in_err-push-clause-err g c =
    let refused = c.in_err-push.ensures in
    rw (refused.err, err_returned _ c.from_residual.ensures.1) (
      taken_up_to g.U.IntoIterator.into_iter_gives g.U.IntoIter.Iterator.next_gives g.U.IntoIter.Iterator.can_next g.U.IntoIter.Iterator.remaining c.loop-item.invariant c.in-Some.ensures.steps,
      refuses_one_more max_len (length c.loop-item.self) c.in_err-push.field-0.0 refused.errors refused.full refused.memory,
    )

pub loop-item-smaller : goal.loop-item-smaller
loop-item-smaller g c = lt_of_le_of_lt c.in-Some-fill_last_from.ensures.goes.1.1 (c.in-Some.ensures.goes.on c.loop-item.invariant.finite).2

pub returns-clause-ok : goal.returns-clause-ok
returns-clause-ok g c =
    taken_all g.U.IntoIterator.into_iter_gives g.U.IntoIter.Iterator.next_gives g.U.IntoIter.Iterator.can_next g.U.IntoIter.Iterator.remaining c.loop-item.invariant c.in_default.ensures.steps
