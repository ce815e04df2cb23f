use Rattle.std.specs.Slice.Iter.{iter_rest}
use Rattle.wasmi_arena.proofs.Entries.{length-entries_from}
use Rattle.wasmi_dense.proofs.arena.iter.Iter.len.Goals as goal

pub returns : goal.returns
returns g c = rw (← c.self.view_is, length-entries_from g.Key.ArenaKey.keys c.self.inside.next (iter_rest c.self.inside.items)) c.len.ensures.value
