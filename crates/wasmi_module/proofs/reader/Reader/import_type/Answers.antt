use Rattle.wasmi_module.proofs.ReadLemmas.{reads-then}
use Rattle.wasmi_module.proofs.reader.Reader.import_type.Goals as goal
use Rattle.std.proofs.lemmas.Result.{MatchResult-from_err}
use Rattle.wasmi_module.proofs.LacksTypes.{lacks-import_kind, lacks-import_func, lacks-import_table, lacks-import_memory, lacks-import_global}

pub returns-in_ok-index-in-Func : goal.returns-in_ok-index-in-Func
returns-in_ok-index-in-Func c = reads-then c.kind.new.self (rw c.in-Func.is at c.in_ok-kind.ensures) c.in_ok-index-in-Func.ensures

pub returns-in_ok-ty-in-Table : goal.returns-in_ok-ty-in-Table
returns-in_ok-ty-in-Table c = reads-then c.kind.new.self (rw c.in-Table.is at c.in_ok-kind.ensures) c.in_ok-ty-in-Table.ensures

pub returns-in_ok-ty-in-Memory : goal.returns-in_ok-ty-in-Memory
returns-in_ok-ty-in-Memory c = reads-then c.kind.new.self (rw c.in-Memory.is at c.in_ok-kind.ensures) c.in_ok-ty-in-Memory.ensures

pub returns-in_ok-ty-in-Global : goal.returns-in_ok-ty-in-Global
returns-in_ok-ty-in-Global c = reads-then c.kind.new.self (rw c.in-Global.is at c.in_ok-kind.ensures) c.in_ok-ty-in-Global.ensures

pub returns-in_err-kind : goal.returns-in_err-kind
returns-in_err-kind c = MatchResult-from_err _ _ _ c.from_residual.ensures.0 (λ _. lacks-import_kind c.in_err-kind.ensures)

pub returns-in_err-index-in-Func : goal.returns-in_err-index-in-Func
returns-in_err-index-in-Func c =
    MatchResult-from_err _ _ _ c.from_residual-in_err-index-in-Func.ensures.0
    (λ _. lacks-import_func c.kind.new.self (rw c.in-Func.is at c.in_ok-kind.ensures) c.in_err-index-in-Func.ensures)

pub returns-in_err-ty-in-Table : goal.returns-in_err-ty-in-Table
returns-in_err-ty-in-Table c =
    MatchResult-from_err _ _ _ c.from_residual-in_err-ty-in-Table.ensures.0
    (λ _. lacks-import_table c.kind.new.self (rw c.in-Table.is at c.in_ok-kind.ensures) c.in_err-ty-in-Table.ensures)

pub returns-in_err-ty-in-Memory : goal.returns-in_err-ty-in-Memory
returns-in_err-ty-in-Memory c =
    MatchResult-from_err _ _ _ c.from_residual-in_err-ty-in-Memory.ensures.0
    (λ _. lacks-import_memory c.kind.new.self (rw c.in-Memory.is at c.in_ok-kind.ensures) c.in_err-ty-in-Memory.ensures)

pub returns-in_err-ty-in-Global : goal.returns-in_err-ty-in-Global
returns-in_err-ty-in-Global c =
    MatchResult-from_err _ _ _ c.from_residual-in_err-ty-in-Global.ensures.0
    (λ _. lacks-import_global c.kind.new.self (rw c.in-Global.is at c.in_ok-kind.ensures) c.in_err-ty-in-Global.ensures)
