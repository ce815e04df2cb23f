use Rattle.std.proofs.Common.{◌∙◌}
use Rattle.wasmi_hashed.proofs.Same.{hash_set_eq-same}
use Rattle.wasmi_hashed.proofs.set.compared.SetPartialEq.eq.Goals as goal

pub returns : goal.returns
returns g c = rw (← c.self.view_is, ← c.other.view_is) (c.eq.ensures ∙ hash_set_eq-same g.met.T.Eq.laws c.self.inside.inner c.other.inside.inner)
