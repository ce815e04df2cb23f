use Rattle.wasmi_module.proofs.ReadLemmas.{reads-then, reads-byte}
use Rattle.wasmi_module.proofs.reader.Reader.init.Goals as goal
use Rattle.std.proofs.lemmas.Result.{MatchResult-from_err}
use Rattle.wasmi_module.specs.Views.{init_of}
use Rattle.wasmi_module.proofs.LacksConstants.{lacks-init_first, lacks-init_none, lacks-init_end}

pub returns : goal.returns
returns c = reads-then c.constant.new.self c.in_ok-init.ensures (reads-byte _ 11 _ _ c.if-branch-ne11.false c.in_ok-byte.ensures)

pub returns-in_err-init : goal.returns-in_err-init
returns-in_err-init c = MatchResult-from_err _ _ _ c.from_residual.ensures.0 (λ _. lacks-init_first c.in_err-init.ensures)

pub returns-in_err-byte : goal.returns-in_err-byte
returns-in_err-byte c =
    MatchResult-from_err _ _ _ c.from_residual-in_err-byte.ensures.0
    (λ _. lacks-init_none (init_of c.in_ok-init.init) c.constant.new.self c.in_ok-init.ensures c.in_err-byte.ensures)

pub returns-then-branch-ne11 : goal.returns-then-branch-ne11
returns-then-branch-ne11 c =
    lacks-init_end (init_of c.in_ok-init.init) c.in_ok-byte.field-0 c.constant.new.self c.byte.new.self c.in_ok-init.ensures c.in_ok-byte.ensures c.if-branch-ne11.true
