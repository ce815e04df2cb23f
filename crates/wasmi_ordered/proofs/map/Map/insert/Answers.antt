use Rattle.wasmi_ordered.proofs.NewEntry.{entries_with_new}
use Rattle.wasmi_ordered.proofs.map.Map.insert.Goals as goal

pub returns-in_err-old-clause-there : goal.returns-in_err-old-clause-there
returns-in_err-old-clause-there g c = rw (← c.self.view_is, c.in_err-old.ensures.absent) (λ some. absurd (cc))

pub returns-clause-changes : goal.returns-clause-changes
returns-clause-changes g c = rw (← c.self.view_is) c.in_ok-old.ensures.updates.0

pub returns-clause-new : goal.returns-clause-new
returns-clause-new g c = rw (← c.self.view_is, c.in_ok-old.ensures.entries) (entries_with_new g.K.Ord.cmp c.args.key c.args.value c.self.inside.inner.entries)
