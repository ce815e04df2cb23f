use Rattle.wasmi_module.proofs.ReadLemmas.{reads-name}
use Rattle.wasmi_module.proofs.reader.Reader.name.Goals as goal
use Rattle.std.proofs.lemmas.Result.{MatchResult-from_err}
use Rattle.wasmi_module.proofs.LacksTypes.{lacks-name_len, lacks-name_bytes, lacks-name_utf8}

pub returns-in-Ok : goal.returns-in-Ok
returns-in-Ok c =
    reads-name c.in_ok-len.len c.in_ok-bytes.bytes.now c.in-Ok.name.now _ c.u32.new.self _ c.in_ok-len.ensures
    c.in_ok-bytes.ensures.0 c.in_ok-bytes.ensures.1 c.in-Ok.ensures.cases.0 c.in-Ok.ensures.cases.1

pub returns-in_err-len : goal.returns-in_err-len
returns-in_err-len c = MatchResult-from_err _ _ _ c.from_residual.ensures.0 (λ _. lacks-name_len c.in_err-len.ensures)

pub returns-in_err-bytes : goal.returns-in_err-bytes
returns-in_err-bytes c =
    MatchResult-from_err _ _ _ c.from_residual-in_err-bytes.ensures.0
    (λ _. lacks-name_bytes c.in_ok-len.len c.u32.new.self c.in_ok-len.ensures c.in_err-bytes.ensures)

pub returns-in-Err : goal.returns-in-Err
returns-in-Err c =
    lacks-name_utf8 c.in_ok-len.len c.in_ok-bytes.bytes.now c.u32.new.self _ c.in_ok-len.ensures c.in_ok-bytes.ensures.0 c.in_ok-bytes.ensures.1 c.in-Err.ensures.cases.0
