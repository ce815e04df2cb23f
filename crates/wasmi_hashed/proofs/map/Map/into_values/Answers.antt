use Rattle.wasmi_hashed.proofs.map.Map.into_values.Goals as goal

pub returns-clause-len : goal.returns-clause-len
returns-clause-len g c = rw (← c.self.view_is) c.into_values.ensures.len
