use Rattle.wasmi_ordered.proofs.map.by_text.Map+String+B+V+A.remove_str.Goals as goal

pub returns-clause-changes : goal.returns-clause-changes
returns-clause-changes g c = rw (← c.self.view_is) c.remove.ensures.updates.0

pub returns-clause-changes_key : goal.returns-clause-changes_key
returns-clause-changes_key g c = λ k same. rw (← c.self.view_is, same) c.remove.ensures.updates.0
