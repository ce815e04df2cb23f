use Rattle.wasmi_arena.proofs.LaidOut.{slice_get-bucket_at}
use Rattle.wasmi_arena.proofs.laws.item_is_in_its_slot.Goals as goal

pub returns : goal.returns
returns g c = slice_get-bucket_at
