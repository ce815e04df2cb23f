use Rattle.wasmi_arena.proofs.BothEnds.{drains_from_ends}
use Rattle.wasmi_dense.specs.ArenaLoan.{left_entries}
use Rattle.wasmi_dense.proofs.laws.entries_from_both_ends.Goals as goal

pub returns-clause-read : goal.returns-clause-read
returns-clause-read g c = drains_from_ends (λ entry. (entry.0, entry.1.now)) (λ entries. entries)

pub returns-clause-written : goal.returns-clause-written
returns-clause-written g c = drains_from_ends (λ entry. (entry.0, entry.1.now)) (left_entries g.Key.ArenaKey.keys)

pub returns-clause-taken : goal.returns-clause-taken
returns-clause-taken g c = drains_from_ends (λ entry. entry) (λ entries. entries)
