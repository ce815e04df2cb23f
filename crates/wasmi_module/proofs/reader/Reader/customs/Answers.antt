use Rattle.wasmi_module.proofs.SectionLemmas.{reads-customs_more}
use Rattle.wasmi_module.proofs.reader.Reader.customs.Goals as goal
use Rattle.std.proofs.lemmas.Result.{MatchResult-from_err}
use Rattle.wasmi_module.proofs.OrderLemmas.{none_after, no_customs}

pub loop-preserved : goal.loop-preserved
loop-preserved c = reads-customs_more c.in_ok-contents.field-0 _ c.loop.self _ c.if-is_some.ensures c.in_ok-contents.ensures.found c.loop.invariant

pub returns-clause-all : goal.returns-clause-all
returns-clause-all c = no_customs c.in_ok-contents.field-0 c.loop.self c.contents.new.self c.if-is_some.ensures c.in_ok-contents.ensures.absent c.in_ok-contents.ensures.none

pub returns-in_err-contents-clause-refused : goal.returns-in_err-contents-clause-refused
returns-in_err-contents-clause-refused c = MatchResult-from_err _ _ _ c.from_residual.ensures.0 (λ _. none_after c.loop.invariant c.in_err-contents.ensures.refused)
