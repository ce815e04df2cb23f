use Rattle.std.proofs.Common.{arith}
use Rattle.std.proofs.lemmas.Result.{MatchResult-from_err}
use Rattle.wasmi_module.proofs.LacksTypes.{lacks-memory, lacks-memory_pages}
use Rattle.wasmi_module.proofs.reader.Reader.memory_type.Goals as goal
use Rattle.wasmi_module.proofs.reader.Reader.memory_type.Goals.{in-Some, in-None}

pub returns-in_err-limits : goal.returns-in_err-limits
returns-in_err-limits c = MatchResult-from_err _ _ _ c.from_residual.ensures.0 (λ _. lacks-memory c.in_err-limits.ensures)

pub returns-then-most-gt-MAX_PAGES : goal.returns-then-most-gt-MAX_PAGES
returns-then-most-gt-MAX_PAGES c =
    lacks-memory_pages c.in_ok-limits.limits c.limits.new.self c.in_ok-limits.ensures
    (λ pages. elim c.match-limits.branch [
      | in-Some w ↦ let most = rw w.in-Some.is at pages.1 in absurd (omega arith)
      | in-None w ↦ absurd (omega (arith, pages.0))
    ])
