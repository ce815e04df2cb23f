use Rattle.wasmi_hashed.proofs.map.Map.clone.Goals as goal

pub returns-clause-entries : goal.returns-clause-entries
returns-clause-entries g c = rw (← c.self.view_is) c.in_ok-inner.ensures.cases
