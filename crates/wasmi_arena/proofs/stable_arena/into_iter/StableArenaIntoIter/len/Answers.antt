use Rattle.std.proofs.Common.{◌∙◌, sym, ap, length}
use Rattle.wasmi_arena.proofs.Entries.{length-entries_from}
use Rattle.wasmi_arena.proofs.stable_arena.into_iter.StableArenaIntoIter.len.Goals as goal

pub returns : goal.returns
returns g c = c.len.ensures ∙ (sym (length-entries_from g.Key.ArenaKey.keys c.self.inside.next c.self.inside.items) ∙ ap length c.self.view_is)
