use Rattle.wasmi_arena.proofs.BothEnds.{drains_from_ends}
use Rattle.wasmi_dense.specs.ComponentLoan.{left_components}
use Rattle.wasmi_dense.proofs.laws.components_from_both_ends.Goals as goal

pub returns-clause-read : goal.returns-clause-read
returns-clause-read g c = drains_from_ends (λ entry. (entry.0, entry.1.now)) (λ entries. entries)

pub returns-clause-written : goal.returns-clause-written
returns-clause-written g c = drains_from_ends (λ entry. (entry.0, entry.1.now)) (left_components g.Key.ArenaKey.keys)
