use Rattle.wasmi_ordered.proofs.NewEntry.{entries_with_new, put_among}
use Rattle.wasmi_ordered.proofs.map.Map.try_insert.Goals as goal

pub returns-clause-new : goal.returns-clause-new
returns-clause-new g c =
    rw (← c.self.view_is) (λ absent. put_among c.put_new.result _ _ _ (c.put_new.ensures.entries absent) (entries_with_new g.K.Ord.cmp c.args.key c.args.value c.self.inside.inner.entries absent))
