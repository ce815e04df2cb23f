use Rattle.std.proofs.Common.{refl, subst, take_all}
use Rattle.wasmi_module.specs.Valid.{AreDistinct}
use Rattle.wasmi_module.proofs.DistinctLemmas.{names, HasNames-more, distinct-more, distinct-none}
use Rattle.wasmi_module.proofs.check.are_distinct.Goals as goal

pub loop-export-preserved : goal.loop-export-preserved
loop-export-preserved g c = record {
  names = HasNames-more c.args.exports.now c.loop-export.export-index _ c.loop-export.names c.insert.new.self c.loop-export-test.true c.loop-export.invariant.names c.in_ok-insert.ensures.updates;
  distinct = distinct-more c.args.exports.now c.loop-export.export-index _ c.loop-export.names c.in_ok-insert.field-0 c.loop-export-test.true
      c.loop-export.invariant.names c.loop-export.invariant.distinct c.in_ok-insert.ensures.added c.if-not-branch.false;
}

pub returns-then-not-branch : goal.returns-then-not-branch
returns-then-not-branch g c = (
  λ t. absurd cc,
  λ distinct. absurd (distinct-none c.args.exports.now c.loop-export.export-index _ c.loop-export.names c.in_ok-insert.field-0 c.loop-export-test.true
      c.loop-export.invariant.names c.in_ok-insert.ensures.added c.if-not-branch.true distinct),
)

pub returns : goal.returns
returns g c = (λ _. subst (λ es. AreDistinct (names es)) (take_all c.loop-export.export-index c.args.exports.now c.loop-export-test.false) c.loop-export.invariant.distinct, λ _. refl)
