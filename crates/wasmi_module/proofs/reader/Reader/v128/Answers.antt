use Rattle.wasmi_module.proofs.ReadLemmas.{reads-then, reads-bytes, reads-u32_at}
use Rattle.wasmi_module.proofs.reader.Reader.v128.Goals as goal
use Rattle.std.proofs.lemmas.Result.{MatchResult-from_err}
use Rattle.wasmi_module.proofs.LacksConstants.{lacks-v128_number, lacks-v128_other, lacks-v128_bytes}

pub returns : goal.returns
returns c =
    let bytes = reads-bytes 16 c.in_ok-bytes.bytes.now c.u32.new.self c.bytes.new.self c.in_ok-bytes.ensures.0 c.in_ok-bytes.ensures.1 in
    let number = reads-u32_at c.in_ok-u32.field-0 12 c.args.self.now c.u32.new.self c.if-branch-ne12.false c.in_ok-u32.ensures in
    reads-then c.u32.new.self number bytes

pub returns-in_err-u32 : goal.returns-in_err-u32
returns-in_err-u32 c = MatchResult-from_err _ _ _ c.from_residual.ensures.0 (λ _. lacks-v128_number c.in_err-u32.ensures)

pub returns-then-branch-ne12 : goal.returns-then-branch-ne12
returns-then-branch-ne12 c = lacks-v128_other c.in_ok-u32.field-0 c.u32.new.self c.in_ok-u32.ensures c.if-branch-ne12.true

pub returns-in_err-bytes : goal.returns-in_err-bytes
returns-in_err-bytes c =
    MatchResult-from_err _ _ _ c.from_residual-in_err-bytes.ensures.0
    (λ _. lacks-v128_bytes c.in_ok-u32.field-0 c.u32.new.self c.in_ok-u32.ensures c.in_err-bytes.ensures)
