use Rattle.wasmi_module.proofs.ReadLemmas.{reads-then}
use Rattle.wasmi_module.proofs.LacksTypes.{lacks-table_first, lacks-table_then}
use Rattle.std.proofs.lemmas.Result.{MatchResult-from_err}
use Rattle.wasmi_module.proofs.reader.Reader.table_type.Goals as goal

pub returns : goal.returns
returns c = reads-then c.ref_type.new.self c.in_ok-element.ensures c.in_ok-limits.ensures

pub returns-in_err-element : goal.returns-in_err-element
returns-in_err-element c = MatchResult-from_err _ _ _ c.from_residual.ensures.0 (λ _. lacks-table_first c.in_err-element.ensures)

pub returns-in_err-limits : goal.returns-in_err-limits
returns-in_err-limits c = MatchResult-from_err _ _ _ c.from_residual-in_err-limits.ensures.0 (λ _. lacks-table_then c.in_ok-element.element c.ref_type.new.self c.in_ok-element.ensures c.in_err-limits.ensures)
