use Rattle.wasmi_ordered.proofs.set.Set.insert.Goals as goal

pub returns-clause-changes : goal.returns-clause-changes
returns-clause-changes g c = rw (← c.self.view_is) c.in_ok-added.ensures.updates.0
