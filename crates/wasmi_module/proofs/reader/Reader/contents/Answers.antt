use Rattle.std.proofs.Common.{refl}
use Rattle.wasmi_module.proofs.SectionLemmas.{reads-section}
use Rattle.wasmi_module.proofs.reader.Reader.contents.Goals as goal
use Rattle.std.proofs.lemmas.Result.{MatchResult-from_err}
use Rattle.wasmi_module.proofs.OrderLemmas.{none_empty, none_len, none_short}

pub returns-clause-found : goal.returns-clause-found
returns-clause-found c =
    reads-section c.args.number c.in_ok-len.len c.in_ok-contents.contents c.byte.new.self c.u32.new.self
    (c.if-not-is_next.ensures.0 refl) c.in_ok-byte.ensures c.in_ok-len.ensures c.in_ok-contents.ensures.0 c.in_ok-contents.ensures.1

pub returns-then-not-is_next-clause-absent : goal.returns-then-not-is_next-clause-absent
returns-then-not-is_next-clause-absent c = λ e. let t = c.if-not-is_next.ensures.1 e in absurd cc

pub returns-in_err-byte-clause-refused : goal.returns-in_err-byte-clause-refused
returns-in_err-byte-clause-refused c = MatchResult-from_err _ _ _ c.from_residual.ensures.0 (λ _. none_empty c.args.number (c.if-not-is_next.ensures.0 refl) c.in_err-byte.ensures)

pub returns-in_err-len-clause-refused : goal.returns-in_err-len-clause-refused
returns-in_err-len-clause-refused c =
    MatchResult-from_err _ _ _ c.from_residual-in_err-len.ensures.0 (λ _. none_len c.in_ok-byte.field-0 c.byte.new.self c.in_ok-byte.ensures c.in_err-len.ensures)

pub returns-in_err-contents-clause-refused : goal.returns-in_err-contents-clause-refused
returns-in_err-contents-clause-refused c =
    MatchResult-from_err _ _ _ c.from_residual-in_err-contents.ensures.0
    (λ _. none_short c.in_ok-byte.field-0 c.in_ok-len.len c.byte.new.self c.u32.new.self c.in_ok-byte.ensures c.in_ok-len.ensures c.in_err-contents.ensures)
