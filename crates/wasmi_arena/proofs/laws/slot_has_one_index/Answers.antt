use Rattle.wasmi_arena.proofs.Doubling.{place_of_slot}
use Rattle.wasmi_arena.proofs.laws.slot_has_one_index.Goals as goal

pub returns-clause-index : goal.returns-clause-index
returns-clause-index c = place_of_slot
