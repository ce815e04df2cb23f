use Rattle.wasmi_dense.proofs.Components.{equal-Decides}
use Rattle.wasmi_dense.proofs.laws.equal_components.Goals as goal

pub returns : goal.returns
returns g c = λ same. equal-Decides same _ _ _ c.eq.ensures
