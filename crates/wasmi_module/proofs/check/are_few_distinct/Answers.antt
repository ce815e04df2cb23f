use Rattle.std.proofs.Common.{refl, sym, subst, take_all, ◌∙◌}
use Rattle.wasmi_module.specs.Valid.{AreDistinct}
use Rattle.wasmi_module.proofs.DistinctLemmas.{distinct_step, distinct_none, names}
use Rattle.wasmi_module.proofs.check.are_few_distinct.Goals as goal

pub loop-place-preserved : goal.loop-place-preserved
loop-place-preserved c = distinct_step c.args.exports.now c.loop-place.place _ c.loop-place-test.true c.loop-place.invariant (sym c.is_among.ensures ∙ c.if-is_among.false)

pub returns : goal.returns
returns c = (λ _. subst (λ es. AreDistinct (names es)) (take_all c.loop-place.place c.args.exports.now c.loop-place-test.false) c.loop-place.invariant, λ _. refl)

pub returns-then-is_among : goal.returns-then-is_among
returns-then-is_among c = (λ t. absurd cc, λ distinct. absurd (distinct_none c.args.exports.now c.loop-place.place _ c.loop-place-test.true (sym c.is_among.ensures ∙ c.if-is_among.true) distinct))
