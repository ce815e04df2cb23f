use Rattle.wasmi_arena.proofs.Doubling.{place_unique}
use Rattle.wasmi_arena.proofs.laws.place_is_unique.Goals as goal

pub returns : goal.returns
returns c = λ index b s d t here there. place_unique here there
