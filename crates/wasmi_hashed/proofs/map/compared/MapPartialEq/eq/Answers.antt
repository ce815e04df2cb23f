use Rattle.std.proofs.Common.{◌∙◌}
use Rattle.wasmi_hashed.proofs.Same.{hash_map_eq-same}
use Rattle.wasmi_hashed.proofs.map.compared.MapPartialEq.eq.Goals as goal

pub returns : goal.returns
returns g c = rw (← c.self.view_is, ← c.other.view_is) (c.eq.ensures ∙ hash_map_eq-same g.met.K.Eq.laws g.V.PartialEq.eq c.self.inside.inner c.other.inside.inner)
