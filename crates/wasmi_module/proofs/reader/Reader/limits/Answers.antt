use Rattle.std.proofs.Common.{None, Some, arith}
use Rattle.wasmi_module.specs.Format.{AreBounds}
use Rattle.wasmi_module.proofs.ReadLemmas.{reads-then, reads-as, reads-byte_then}
use Rattle.std.proofs.lemmas.Result.{MatchResult-from_err}
use Rattle.wasmi_module.proofs.LacksTypes.{lacks-limits_none, lacks-limits_min, lacks-limits_max, lacks-limits_order, lacks-limits_tag}
use Rattle.wasmi_module.proofs.reader.Reader.limits.Goals as goal

pub returns-in_ok-min-in-0 : goal.returns-in_ok-min-in-0
returns-in_ok-min-in-0 c =
    reads-as (AreBounds c.in_ok-min-in-0.min None) _ _ _ (λ text h. record { order = tt; written = h })
    (reads-byte_then c.byte.new.self c.in-0.is c.in_ok-byte.ensures c.in_ok-min-in-0.ensures)

pub returns-else-max-min : goal.returns-else-max-min
returns-else-max-min c =
    reads-as (AreBounds c.in_ok-min-in-1.min (Some c.in_ok-max-in-1.max)) _ _ _ (λ text h. record { order = c.if-max-min.false; written = h })
    (reads-byte_then c.byte.new.self c.in-1.is c.in_ok-byte.ensures
    (reads-then c.u32-in-1.new.self c.in_ok-min-in-1.ensures c.in_ok-max-in-1.ensures))

pub returns-in_err-byte : goal.returns-in_err-byte
returns-in_err-byte c = MatchResult-from_err _ _ _ c.from_residual.ensures.0 (λ _. lacks-limits_none c.in_err-byte.ensures)

pub returns-in_err-min-in-0 : goal.returns-in_err-min-in-0
returns-in_err-min-in-0 c =
    MatchResult-from_err _ _ _ c.from_residual-in_err-min-in-0.ensures.0
    (λ _. lacks-limits_min c.in_ok-byte.field-0 c.byte.new.self c.in_ok-byte.ensures c.in_err-min-in-0.ensures)

pub returns-in_err-min-in-1 : goal.returns-in_err-min-in-1
returns-in_err-min-in-1 c =
    MatchResult-from_err _ _ _ c.from_residual-in_err-min-in-1.ensures.0
    (λ _. lacks-limits_min c.in_ok-byte.field-0 c.byte.new.self c.in_ok-byte.ensures c.in_err-min-in-1.ensures)

pub returns-in_err-max-in-1 : goal.returns-in_err-max-in-1
returns-in_err-max-in-1 c =
    MatchResult-from_err _ _ _ c.from_residual-in_err-max-in-1.ensures.0
    (λ _. lacks-limits_max c.in_ok-byte.field-0 c.in_ok-min-in-1.min c.byte.new.self c.u32-in-1.new.self c.in-1.is c.in_ok-byte.ensures c.in_ok-min-in-1.ensures c.in_err-max-in-1.ensures)

pub returns-then-max-min : goal.returns-then-max-min
returns-then-max-min c =
    lacks-limits_order c.in_ok-byte.field-0 c.in_ok-min-in-1.min c.in_ok-max-in-1.max c.byte.new.self c.u32-in-1.new.self _ c.in-1.is
    c.in_ok-byte.ensures c.in_ok-min-in-1.ensures c.in_ok-max-in-1.ensures c.if-max-min.true

pub returns-in_default : goal.returns-in_default
returns-in_default c = lacks-limits_tag c.in_ok-byte.field-0 c.byte.new.self c.in_ok-byte.ensures (λ e. absurd (omega arith)) (λ e. absurd (omega arith))
