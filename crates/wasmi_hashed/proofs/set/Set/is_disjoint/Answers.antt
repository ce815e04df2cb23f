use Rattle.wasmi_hashed.proofs.set.Set.is_disjoint.Goals as goal

pub returns : goal.returns
returns g c = rw (← c.self.view_is, ← c.other.view_is) c.is_disjoint.ensures
