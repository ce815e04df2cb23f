use Rattle.std.specs.Slice.Iter.{iter_mut_rest}
use Rattle.wasmi_arena.proofs.Entries.{length-entries_from}
use Rattle.wasmi_dense.proofs.arena.iter_mut.IterMut.len.Goals as goal

pub returns : goal.returns
returns g c = rw (length-entries_from g.Key.ArenaKey.keys c.args.self.now.next (iter_mut_rest c.args.self.now.items)) c.len.ensures.value
