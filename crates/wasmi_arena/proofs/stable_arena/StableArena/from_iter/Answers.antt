use Rattle.std.proofs.Common.{length, inl, inr}
use Rattle.std.proofs.lemmas.Bool.{cases_lt, false≢true}
use Rattle.wasmi_arena.specs.Arena.{stable_limit}
use Rattle.wasmi_arena.proofs.Growth.{refuses_one_more}
use Rattle.wasmi_arena.proofs.Yielded.{taken_up_to, taken_more, taken_last}
use Rattle.wasmi_arena.proofs.Results.{err_returned, same_error}
use Rattle.wasmi_arena.proofs.stable_arena.StableArena.from_iter.Goals as goal

pub returns-in_err-alloc-clause-err : goal.returns-in_err-alloc-clause-err
returns-in_err-alloc-clause-err g c =
    let refused = c.in_err-alloc.ensures in
    rw (err_returned _ c.from_residual.ensures.1) (
      c.loop-item.arena,
      (
        taken_up_to g.U.IntoIterator.into_iter_gives g.U.IntoIter.Iterator.next_gives g.U.IntoIter.Iterator.can_next g.U.IntoIter.Iterator.remaining c.loop-item.invariant c.in-Some.ensures.steps,
        refuses_one_more (stable_limit g.Key.ArenaKey.keys) (length c.loop-item.arena) c.in_err-alloc.field-0.0 refused.errors refused.no_key refused.memory,
      ),
    )

pub returns-in_err-alloc-clause-without_size : goal.returns-in_err-alloc-clause-without_size
returns-in_err-alloc-clause-without_size g c = λ none infallible.
    elim (cases_lt (length c.loop-item.arena) (stable_limit g.Key.ArenaKey.keys)) [
      | inl below ↦ absurd (false≢true (c.in_err-alloc.ensures.without_size below none infallible))
      | inr above ↦ rw (err_returned _ c.from_residual.ensures.1) (same_error (c.in_err-alloc.ensures.no_key.1 above))
    ]

pub loop-item-preserved : goal.loop-item-preserved
loop-item-preserved g c =
    let more = c.in-Some-fill_last_from.ensures in
    taken_more g.U.IntoIterator.into_iter_gives g.U.IntoIter.Iterator.next_gives g.U.IntoIter.Iterator.can_next g.U.IntoIter.Iterator.remaining c.loop-item.invariant c.in-Some.ensures.steps c.in_ok-alloc.ensures.ok
    c.in-Some-fill_last_from.rest more.items more.goes.0 more.goes.1.0

pub returns-in-None-clause-ok : goal.returns-in-None-clause-ok
returns-in-None-clause-ok g c =
    taken_last g.U.IntoIterator.into_iter_gives g.U.IntoIter.Iterator.next_gives g.U.IntoIter.Iterator.can_next g.U.IntoIter.Iterator.remaining c.loop-item.invariant c.in-Some.ensures.steps c.in_ok-alloc.ensures.ok c.in-None.ensures.items
