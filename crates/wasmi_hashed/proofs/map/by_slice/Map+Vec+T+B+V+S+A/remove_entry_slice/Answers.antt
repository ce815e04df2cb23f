use Rattle.wasmi_hashed.proofs.map.by_slice.Map+Vec+T+B+V+S+A.remove_entry_slice.Goals as goal

pub returns-clause-changes : goal.returns-clause-changes
returns-clause-changes g c = rw (← c.self.view_is) c.remove_entry.ensures.updates.0

pub returns-clause-entries : goal.returns-clause-entries
returns-clause-entries g c = rw (← c.self.view_is) c.remove_entry.ensures.entries
