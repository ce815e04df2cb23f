use Rattle.wasmi_hashed.proofs.NewEntry.{entries_with_new}
use Rattle.wasmi_hashed.proofs.map.Map.insert.Goals as goal

pub returns-clause-new : goal.returns-clause-new
returns-clause-new g c = rw (← c.self.view_is) (entries_with_new g.K.PartialEq.eq c.self.inside.inner.entries _ c.args.key c.args.value c.in_ok-old.old c.in_ok-old.ensures.old c.in_ok-old.ensures.entries)
