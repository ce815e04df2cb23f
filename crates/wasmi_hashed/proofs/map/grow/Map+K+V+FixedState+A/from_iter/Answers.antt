use Rattle.std.proofs.Common.{List, subst}
use Rattle.std.proofs.lemmas.Result.{err_from_is_err_and}
use Rattle.wasmi_map_specs.specs.Maps.{TakesAll, TakesUntilRefused}
use Rattle.wasmi_hashed.proofs.map.grow.Map+K+V+FixedState+A.from_iter.Goals as goal

pub returns-in_err-extend-clause-err : goal.returns-in_err-extend-clause-err
returns-in_err-extend-clause-err g c =
    let failed = err_from_is_err_and c.from_residual.result c.from_residual.ensures.1 in
    let From : List (g.row.K.Denot × g.row.V.Denot) → Type 0 = λ old. TakesUntilRefused g.K.PartialEq.eq g.U.IntoIterator.into_iter_gives g.U.IntoIter.Iterator.next_gives (λ pairs. pairs) c.args.iter old c.extend.new.self.entries in
    rw failed.1 (c.extend.new.self.entries, subst From c.new-map.ensures c.in_err-extend.ensures.err)

pub returns-clause-ok : goal.returns-clause-ok
returns-clause-ok g c =
    let From : List (g.row.K.Denot × g.row.V.Denot) → Type 0 = λ old. TakesAll g.K.PartialEq.eq g.U.IntoIterator.into_iter_gives g.U.IntoIter.Iterator.next_gives (λ pairs. pairs) c.args.iter old c.extend.new.self.entries in
    subst From c.new-map.ensures c.in_ok-extend.ensures.ok
