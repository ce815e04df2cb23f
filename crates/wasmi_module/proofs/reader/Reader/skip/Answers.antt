use Rattle.std.proofs.lemmas.Result.{MatchResult-from_err}
use Rattle.wasmi_module.proofs.ReadLemmas.{reads-then}
use Rattle.wasmi_module.proofs.SectionLemmas.{reads-any}
use Rattle.wasmi_module.proofs.OrderLemmas.{none_after, behind_section}
use Rattle.wasmi_module.proofs.reader.Reader.skip.Goals as goal

pub returns-clause-written : goal.returns-clause-written
returns-clause-written c =
    reads-then c.customs.new.self c.in_ok-customs.ensures.written
    (reads-any c.in_ok-contents.field-0 c.args.number _ _ c.in_ok-contents.ensures.found c.in_ok-contents.ensures.none)

pub returns-clause-rest : goal.returns-clause-rest
returns-clause-rest c =
    behind_section c.in_ok-contents.field-0 c.args.number c.args.self.now c.customs.new.self c.contents.new.self c.in_ok-customs.ensures.written c.in_ok-customs.ensures.all
    c.in_ok-contents.ensures.found c.in_ok-contents.ensures.absent c.in_ok-contents.ensures.none

pub returns-in_err-contents-clause-refused : goal.returns-in_err-contents-clause-refused
returns-in_err-contents-clause-refused c =
    MatchResult-from_err _ _ _ c.from_residual-in_err-contents.ensures.0 (λ _. none_after c.in_ok-customs.ensures.written c.in_err-contents.ensures.refused)
