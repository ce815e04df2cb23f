use Rattle.std.proofs.Common.{◌∙◌, sym, ap, arith}
use Rattle.wasmi_arena.specs.Geometry.{fewest}
use Rattle.wasmi_arena.proofs.Doubling.{fewest_is, fewest_of_none, fewest_of_place}
use Rattle.wasmi_arena.proofs.geometry.buckets_for.Goals as goal

pub returns-then-len-eq0 : goal.returns-then-len-eq0
returns-then-len-eq0 c = rw c.if-len-eq0.true (sym (fewest_is (omega arith) fewest_of_none))

pub returns : goal.returns
returns c =
    let small = c.requires in let some = c.if-len-eq0.false in
    sym (ap fewest (omega arith) ∙ fewest_is (omega arith) (fewest_of_place c.place-bucket.ensures.place))
