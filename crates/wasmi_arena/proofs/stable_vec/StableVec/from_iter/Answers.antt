use Rattle.wasmi_arena.proofs.Results.{err_returned}
use Rattle.wasmi_arena.proofs.stable_vec.StableVec.from_iter.Goals as goal

pub returns-in_err-extend-clause-err : goal.returns-in_err-extend-clause-err
returns-in_err-extend-clause-err g c =
    rw (err_returned _ c.from_residual.ensures.1) (c.extend.new.self, rw c.new-vec.ensures at c.in_err-extend.ensures.err)

pub returns-in_err-extend-clause-without_size : goal.returns-in_err-extend-clause-without_size
returns-in_err-extend-clause-without_size g c = λ none infallible.
    rw (err_returned _ c.from_residual.ensures.1) (c.in_err-extend.ensures.without_size none infallible)

pub returns-clause-ok : goal.returns-clause-ok
returns-clause-ok g c = rw c.new-vec.ensures at c.in_ok-extend.ensures.ok
