use Rattle.std.proofs.Common.{arith, inl, inr}
use Rattle.std.proofs.lemmas.Int.{ints}
use Rattle.wasmi_module.proofs.NumberLemmas.{signed-low, signed-high, signed-more, signed-none, signed-ill, signed-rest, on_err}
use Rattle.wasmi_module.proofs.reader.Reader.+signed.Goals as goal
use Rattle.wasmi_module.proofs.reader.Reader.+signed.Goals.{else-byte-lt64-via-then-byte-lt64+else-byte-half, else-byte-lt64-via-else-byte-lt64, else-byte-ge64-via-then-byte-ge64+then-byte-lt128+else-byte-half-2, else-byte-ge64-via-then-byte-ge64+else-byte-lt128, else-byte-ge64-via-else-byte-ge64, then-byte-lt128-2-via-then-byte-lt128-2, then-byte-lt128-2-via-else-byte-lt128-2+then-half-le64}

pub returns-then-byte-half-clause-number : goal.returns-then-byte-half-clause-number
returns-then-byte-half-clause-number t c =
    signed-low c.args.half c.in_ok-byte.byte c.in_ok-byte.ensures (omega arith) (omega arith) (omega (arith, ints))

pub returns-then-byte-half-2-clause-number : goal.returns-then-byte-half-2-clause-number
returns-then-byte-half-2-clause-number t c =
    signed-high c.args.half c.in_ok-byte.byte c.in_ok-byte.ensures (omega arith) (omega arith) (omega arith) (omega (arith, ints))

pub returns-clause-number : goal.returns-clause-number
returns-clause-number t c =
    signed-more c.args.half c.in_ok-byte.byte c.in_ok-high.high c.byte.new.self c.in_ok-byte.ensures
    (omega arith) (omega arith) (omega arith) (omega (arith, ints, c.in_ok-high.ensures.above, c.in_ok-high.ensures.below)) c.in_ok-high.ensures.number

pub returns-in_err-byte-clause-lacks : goal.returns-in_err-byte-clause-lacks
returns-in_err-byte-clause-lacks t c = on_err c.from_residual.result (signed-none c.args.half c.in_err-byte.ensures)

pub returns-then-byte-lt128-2-clause-lacks : goal.returns-then-byte-lt128-2-clause-lacks
returns-then-byte-lt128-2-clause-lacks t c =
    signed-ill c.args.half c.in_ok-byte.byte c.byte.new.self c.in_ok-byte.ensures
    (elim c.then-byte-lt128-2.branch [
      | then-byte-lt128-2-via-then-byte-lt128-2 u ↦ elim c.else-byte-lt64.branch [
        | else-byte-lt64-via-then-byte-lt64+else-byte-half v ↦ inl (omega arith, omega arith)
        | else-byte-lt64-via-else-byte-lt64 v ↦ elim c.else-byte-ge64.branch [
          | else-byte-ge64-via-then-byte-ge64+then-byte-lt128+else-byte-half-2 w ↦ inr (inl (omega arith, omega arith, omega arith))
          | else-byte-ge64-via-then-byte-ge64+else-byte-lt128 w ↦ absurd (omega arith)
          | else-byte-ge64-via-else-byte-ge64 w ↦ absurd (omega arith)
        ]
      ]
      | then-byte-lt128-2-via-else-byte-lt128-2+then-half-le64 u ↦ inr (inr (omega arith, omega arith))
    ])

pub returns-in_err-high-clause-lacks : goal.returns-in_err-high-clause-lacks
returns-in_err-high-clause-lacks t c =
    on_err c.from_residual-in_err-high.result
    (signed-rest c.args.half c.in_ok-byte.byte c.byte.new.self c.in_ok-byte.ensures (omega arith) c.in_err-high.ensures.lacks)
