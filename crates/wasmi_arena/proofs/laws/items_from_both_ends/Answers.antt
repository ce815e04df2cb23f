use Rattle.wasmi_arena.specs.IterMut.{left}
use Rattle.wasmi_arena.proofs.BothEnds.{drains_from_ends}
use Rattle.wasmi_arena.proofs.laws.items_from_both_ends.Goals as goal

pub returns-clause-read : goal.returns-clause-read
returns-clause-read g c = drains_from_ends (λ item. item.now) (λ items. items)

pub returns-clause-written : goal.returns-clause-written
returns-clause-written g c = drains_from_ends (λ item. item.now) left

pub returns-clause-taken : goal.returns-clause-taken
returns-clause-taken g c = drains_from_ends (λ item. item) (λ items. items)
