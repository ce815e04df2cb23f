use Rattle.wasmi_arena.proofs.Doubling.{slots-zero, slots-le}
use Rattle.wasmi_arena.proofs.laws.slots_are_few.Goals as goal

pub returns-clause-none : goal.returns-clause-none
returns-clause-none c = slots-zero

pub returns-clause-few : goal.returns-clause-few
returns-clause-few c = slots-le
