use Rattle.std.proofs.Common.{◌∙◌, sym, ap, length}
use Rattle.wasmi_arena.specs.IterMut.{left}
use Rattle.wasmi_arena.proofs.Entries.{length-entries_from}
use Rattle.wasmi_arena.proofs.stable_arena.iter_mut.StableArenaIterMut.len.Goals as goal

pub returns : goal.returns
returns g c = c.len.ensures ∙ (sym (length-entries_from g.Key.ArenaKey.keys c.self.inside.next (left c.self.inside.items)) ∙ ap (λ s. length (left s)) c.self.view_is)
