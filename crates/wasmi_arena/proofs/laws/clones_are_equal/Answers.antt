use Rattle.wasmi_arena.proofs.Cloned.{clones_equal}
use Rattle.wasmi_arena.proofs.laws.clones_are_equal.Goals as goal

pub returns : goal.returns
returns g c = λ same items clones cloned. clones_equal _ same items clones cloned
