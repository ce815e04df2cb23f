use Rattle.wasmi_ordered.proofs.set.Set.replace.Goals as goal

pub returns-clause-changes : goal.returns-clause-changes
returns-clause-changes g c = rw (← c.self.view_is) c.in_ok-old.ensures.updates.0
