use Rattle.wasmi_arena.proofs.Doubling.{place_of}
use Rattle.wasmi_arena.proofs.laws.place_exists.Goals as goal

pub returns : goal.returns
returns c = place_of
