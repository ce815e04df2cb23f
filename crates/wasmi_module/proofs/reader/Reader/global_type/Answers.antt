use Rattle.wasmi_module.proofs.ReadLemmas.{reads-then, reads-byte}
use Rattle.wasmi_module.proofs.reader.Reader.global_type.Goals as goal
use Rattle.std.proofs.Common.{arith}
use Rattle.std.proofs.lemmas.Result.{MatchResult-from_err}
use Rattle.wasmi_module.proofs.LacksTypes.{lacks-global_first, lacks-global_none, lacks-global_flag}

pub returns-in-0 : goal.returns-in-0
returns-in-0 c = reads-then c.val_type.new.self c.in_ok-value.ensures (reads-byte _ 0 _ _ c.in-0.is c.in_ok-byte.ensures)

pub returns-in-1 : goal.returns-in-1
returns-in-1 c = reads-then c.val_type.new.self c.in_ok-value.ensures (reads-byte _ 1 _ _ c.in-1.is c.in_ok-byte.ensures)

pub returns-in_err-value : goal.returns-in_err-value
returns-in_err-value c = MatchResult-from_err _ _ _ c.from_residual.ensures.0 (λ _. lacks-global_first c.in_err-value.ensures)

pub returns-in_err-byte : goal.returns-in_err-byte
returns-in_err-byte c =
    MatchResult-from_err _ _ _ c.from_residual-in_err-byte.ensures.0
    (λ _. lacks-global_none c.in_ok-value.value c.val_type.new.self c.in_ok-value.ensures c.in_err-byte.ensures)

pub returns-in_default : goal.returns-in_default
returns-in_default c =
    lacks-global_flag c.in_ok-value.value c.in_ok-byte.field-0 c.val_type.new.self c.byte.new.self c.in_ok-value.ensures c.in_ok-byte.ensures
    (λ e. absurd (omega arith)) (λ e. absurd (omega arith))
