use Rattle.wasmi_ordered.proofs.map.Map.remove.Goals as goal

pub returns-clause-changes : goal.returns-clause-changes
returns-clause-changes g c = rw (← c.self.view_is) c.remove.ensures.updates.0
