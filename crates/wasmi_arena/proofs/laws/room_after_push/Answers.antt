use Rattle.wasmi_arena.proofs.Doubling.{room-add-one}
use Rattle.wasmi_arena.proofs.laws.room_after_push.Goals as goal

pub returns : goal.returns
returns c = room-add-one
