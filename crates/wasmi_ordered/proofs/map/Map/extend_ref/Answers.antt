use Rattle.std.proofs.Common.{refl}
use Rattle.std.proofs.lemmas.Result.{err_from_is_err_and}
use Rattle.wasmi_ordered.proofs.map.Map.extend_ref.Goals as goal

pub returns-in_err-insert-clause-err : goal.returns-in_err-insert-clause-err
returns-in_err-insert-clause-err g c =
    let failed = err_from_is_err_and c.from_residual.result c.from_residual.ensures.1 in
    rw (failed.1, c.in_err-insert.ensures.err) (
      c.into_iter-key-iterator.result,
      c.loop-key.yielded,
      (c.in-Some.key, c.in-Some.value),
      c.next.new.self,
      c.into_iter-key-iterator.ensures.into_iter_gives,
      (c.loop-key.key-iterator, c.loop-key.yielded_by, c.in-Some.ensures.steps),
      ((c.in-Some.key.now, c.in-Some.value.now), c.loop-key.invariant.inserted, refl, c.in_err-insert.ensures.absent),
    )
