use Rattle.wasmi_hashed.proofs.set.by_text.Set+String+B+S+A.take_str.Goals as goal

pub returns-clause-changes : goal.returns-clause-changes
returns-clause-changes g c = rw (← c.self.view_is) c.take.ensures.updates.0
