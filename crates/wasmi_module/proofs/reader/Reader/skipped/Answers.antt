use Rattle.std.proofs.Common.{refl, arith}
use Rattle.std.proofs.lemmas.Result.{MatchResult-from_err}
use Rattle.wasmi_module.proofs.ReadLemmas.{reads-then}
use Rattle.wasmi_module.proofs.OrderLemmas.{has_next, has_end}
use Rattle.wasmi_module.proofs.reader.Reader.skipped.Goals as goal

pub returns-clause-written : goal.returns-clause-written
returns-clause-written c =
    reads-then c.skip.new.self c.in_ok-skip.ensures.written
    (reads-then c.skip-2.new.self c.in_ok-skip-2.ensures.written
    (reads-then c.skip-3.new.self c.in_ok-skip-3.ensures.written
    (reads-then c.skip-4.new.self c.in_ok-skip-4.ensures.written
    (reads-then c.skip-5.new.self c.in_ok-skip-5.ensures.written c.in_ok-customs.ensures.written))))

pub returns-clause-all : goal.returns-clause-all
returns-clause-all c = λ h.
    let h1 = has_next 8 refl (omega arith) c.in_ok-skip.ensures.rest h.all in
    let h2 = has_next 9 refl (omega arith) c.in_ok-skip-2.ensures.rest h1 in
    let h3 = has_next 12 refl (omega arith) c.in_ok-skip-3.ensures.rest h2 in
    let h4 = has_next 10 refl (omega arith) c.in_ok-skip-4.ensures.rest h3 in
    let h5 = has_next 11 refl (omega arith) c.in_ok-skip-5.ensures.rest h4 in
    has_end h5 c.in_ok-customs.ensures.written c.in_ok-customs.ensures.all

pub returns-in_err-skip-clause-refused : goal.returns-in_err-skip-clause-refused
returns-in_err-skip-clause-refused c = MatchResult-from_err _ _ _ c.from_residual.ensures.0 (λ _ h.
    c.in_err-skip.ensures.refused.none h.all.sections h.all.written)

pub returns-in_err-skip-2-clause-refused : goal.returns-in_err-skip-2-clause-refused
returns-in_err-skip-2-clause-refused c = MatchResult-from_err _ _ _ c.from_residual-in_err-skip-2.ensures.0 (λ _ h.
    let h1 = has_next 8 refl (omega arith) c.in_ok-skip.ensures.rest h.all in
    c.in_err-skip-2.ensures.refused.none h1.sections h1.written)

pub returns-in_err-skip-3-clause-refused : goal.returns-in_err-skip-3-clause-refused
returns-in_err-skip-3-clause-refused c = MatchResult-from_err _ _ _ c.from_residual-in_err-skip-3.ensures.0 (λ _ h.
    let h1 = has_next 8 refl (omega arith) c.in_ok-skip.ensures.rest h.all in
    let h2 = has_next 9 refl (omega arith) c.in_ok-skip-2.ensures.rest h1 in
    c.in_err-skip-3.ensures.refused.none h2.sections h2.written)

pub returns-in_err-skip-4-clause-refused : goal.returns-in_err-skip-4-clause-refused
returns-in_err-skip-4-clause-refused c = MatchResult-from_err _ _ _ c.from_residual-in_err-skip-4.ensures.0 (λ _ h.
    let h1 = has_next 8 refl (omega arith) c.in_ok-skip.ensures.rest h.all in
    let h2 = has_next 9 refl (omega arith) c.in_ok-skip-2.ensures.rest h1 in
    let h3 = has_next 12 refl (omega arith) c.in_ok-skip-3.ensures.rest h2 in
    c.in_err-skip-4.ensures.refused.none h3.sections h3.written)

pub returns-in_err-skip-5-clause-refused : goal.returns-in_err-skip-5-clause-refused
returns-in_err-skip-5-clause-refused c = MatchResult-from_err _ _ _ c.from_residual-in_err-skip-5.ensures.0 (λ _ h.
    let h1 = has_next 8 refl (omega arith) c.in_ok-skip.ensures.rest h.all in
    let h2 = has_next 9 refl (omega arith) c.in_ok-skip-2.ensures.rest h1 in
    let h3 = has_next 12 refl (omega arith) c.in_ok-skip-3.ensures.rest h2 in
    let h4 = has_next 10 refl (omega arith) c.in_ok-skip-4.ensures.rest h3 in
    c.in_err-skip-5.ensures.refused.none h4.sections h4.written)

pub returns-in_err-customs-clause-refused : goal.returns-in_err-customs-clause-refused
returns-in_err-customs-clause-refused c = MatchResult-from_err _ _ _ c.from_residual-in_err-customs.ensures.0 (λ _ h.
    let h1 = has_next 8 refl (omega arith) c.in_ok-skip.ensures.rest h.all in
    let h2 = has_next 9 refl (omega arith) c.in_ok-skip-2.ensures.rest h1 in
    let h3 = has_next 12 refl (omega arith) c.in_ok-skip-3.ensures.rest h2 in
    let h4 = has_next 10 refl (omega arith) c.in_ok-skip-4.ensures.rest h3 in
    let h5 = has_next 11 refl (omega arith) c.in_ok-skip-5.ensures.rest h4 in
    c.in_err-customs.ensures.refused.none h5.sections h5.written)
