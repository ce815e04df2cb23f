use Rattle.std.proofs.Common.{arith, inl, inr}
use Rattle.wasmi_module.proofs.NumberLemmas.{unsigned-last, unsigned-more, unsigned-none, unsigned-ill, unsigned-rest, on_err}
use Rattle.wasmi_module.proofs.reader.Reader.+unsigned.Goals as goal
use Rattle.wasmi_module.proofs.reader.Reader.+unsigned.Goals.{else-byte-lt128-via-then-byte-lt128+else-byte-limit, else-byte-lt128-via-else-byte-lt128, then-byte-lt128-2-via-then-byte-lt128-2, then-byte-lt128-2-via-else-byte-lt128-2+then-limit-le128}

pub returns-then-byte-limit-clause-number : goal.returns-then-byte-limit-clause-number
returns-then-byte-limit-clause-number t c =
    unsigned-last c.args.limit c.in_ok-byte.field-0 _ _ c.in_ok-byte.ensures c.if-byte-lt128.true c.if-byte-limit.true

pub returns-clause-number : goal.returns-clause-number
returns-clause-number t c =
    unsigned-more c.args.limit c.in_ok-byte.field-0 c.in_ok-high.high c.byte.new.self c.in_ok-byte.ensures
    (omega arith) (omega arith) (omega arith) (omega arith) c.in_ok-high.ensures.number

pub returns-in_err-byte-clause-lacks : goal.returns-in_err-byte-clause-lacks
returns-in_err-byte-clause-lacks t c = on_err c.from_residual.result (unsigned-none c.args.limit c.in_err-byte.ensures)

pub returns-then-byte-lt128-2-clause-lacks : goal.returns-then-byte-lt128-2-clause-lacks
returns-then-byte-lt128-2-clause-lacks t c =
    unsigned-ill c.args.limit c.in_ok-byte.field-0 c.byte.new.self c.in_ok-byte.ensures
    (elim c.then-byte-lt128-2.branch [
      | then-byte-lt128-2-via-then-byte-lt128-2 v ↦ elim c.else-byte-lt128.branch [
        | else-byte-lt128-via-then-byte-lt128+else-byte-limit w ↦ inl (omega arith, omega arith)
        | else-byte-lt128-via-else-byte-lt128 w ↦ absurd (omega arith)
      ]
      | then-byte-lt128-2-via-else-byte-lt128-2+then-limit-le128 v ↦ inr (omega arith, omega arith)
    ])

pub returns-in_err-high-clause-lacks : goal.returns-in_err-high-clause-lacks
returns-in_err-high-clause-lacks t c =
    on_err c.from_residual-in_err-high.result
    (unsigned-rest c.args.limit c.in_ok-byte.field-0 c.byte.new.self c.in_ok-byte.ensures (omega arith) c.in_err-high.ensures.lacks)
