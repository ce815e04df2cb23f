use Rattle.std.proofs.Common.{sym, subst, arith, ◌<◌}
use Rattle.wasmi_arena.specs.Geometry.{IsPlace}
use Rattle.wasmi_arena.proofs.Doubling.{fewest_is, place-le_max, fewest_before_first, fewest_before_other}
use Rattle.wasmi_arena.proofs.geometry.buckets_before.Goals as goal

pub returns-then-place-eq0 : goal.returns-then-place-eq0
returns-then-place-eq0 c =
    let first : IsPlace c.args._index c.args.place.0 0 = subst (λ s. IsPlace c.args._index c.args.place.0 s) c.if-place-eq0.true c.requires in
    sym (fewest_is (place-le_max c.requires) (fewest_before_first first))

pub returns-else-place-eq0 : goal.returns-else-place-eq0
returns-else-place-eq0 c =
    let some : 0 < c.args.place.1 = omega (arith, c.if-place-eq0.false) in
    sym (fewest_is (place-le_max c.requires) (fewest_before_other c.requires some))
