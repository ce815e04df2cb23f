use Rattle.std.proofs.Common.{◌∙◌}
use Rattle.wasmi_arena.proofs.Entries.{length-entries_from}
use Rattle.wasmi_dense.proofs.arena.into_iter.IntoIter.len.Goals as goal

pub returns : goal.returns
returns g c = rw (← c.self.view_is, length-entries_from g.Key.ArenaKey.keys c.self.inside.next c.self.inside.items.items) (c.len.ensures ∙ c.self.invariant.2)
