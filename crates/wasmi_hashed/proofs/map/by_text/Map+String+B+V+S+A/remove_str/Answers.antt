use Rattle.wasmi_hashed.proofs.map.by_text.Map+String+B+V+S+A.remove_str.Goals as goal

pub returns-clause-changes : goal.returns-clause-changes
returns-clause-changes g c = rw (← c.self.view_is) c.remove.ensures.updates.0
