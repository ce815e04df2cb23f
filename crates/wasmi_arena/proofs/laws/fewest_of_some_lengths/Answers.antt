use Rattle.std.proofs.Common.{refl}
use Rattle.wasmi_arena.specs.Geometry.{fewest}
use Rattle.wasmi_arena.proofs.laws.fewest_of_some_lengths.Goals as goal

pub returns : goal.returns
unfolding fewest
returns c = refl
