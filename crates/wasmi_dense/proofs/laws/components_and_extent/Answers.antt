use Rattle.wasmi_dense.proofs.Components.{same_slots}
use Rattle.wasmi_dense.proofs.laws.components_and_extent.Goals as goal

pub returns : goal.returns
returns g c = same_slots
