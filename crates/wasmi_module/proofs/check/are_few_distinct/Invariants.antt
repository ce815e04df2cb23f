use Rattle.std.proofs.Common.{map, take}
use Rattle.wasmi_module.specs.Valid.{AreDistinct}
use Rattle.wasmi_module.proofs.check.are_few_distinct.Given as goal

abbrev pub invariant-loop-place : goal.invariant-loop-place
invariant-loop-place l = AreDistinct (map (λ export. export.name.now) (take l.place l.exports))
