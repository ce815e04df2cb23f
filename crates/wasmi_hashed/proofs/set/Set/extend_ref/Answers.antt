use Rattle.std.proofs.Common.{refl}
use Rattle.std.proofs.lemmas.Result.{err_from_is_err_and}
use Rattle.wasmi_hashed.proofs.set.Set.extend_ref.Goals as goal

pub returns-in_err-insert-clause-err : goal.returns-in_err-insert-clause-err
returns-in_err-insert-clause-err g c =
    let failed = err_from_is_err_and c.from_residual.result c.from_residual.ensures.1 in
    rw (failed.1, c.in_err-insert.ensures.err) (
      c.into_iter-value-iterator.result,
      c.loop-value.yielded,
      c.in-Some.value,
      c.next.new.self,
      c.into_iter-value-iterator.ensures.into_iter_gives,
      (c.loop-value.value-iterator, c.loop-value.yielded_by, c.in-Some.ensures.steps),
      (c.in-Some.value.now, c.loop-value.invariant.2, refl, c.in_err-insert.ensures.absent),
    )
