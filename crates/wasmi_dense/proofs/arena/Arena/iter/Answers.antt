use Rattle.std.proofs.Common.{◌∙◌}
use Rattle.wasmi_arena.proofs.Entries.{length-entries_from}
use Rattle.std.specs.Slice.Iter.{iter_rest}
use Rattle.wasmi_dense.proofs.arena.Arena.iter.Goals as goal

pub returns-clause-len : goal.returns-clause-len
returns-clause-len g c = length-entries_from g.Key.ArenaKey.keys 0 (iter_rest c.iter.result) ∙ (rw (c.iter.ensures.rest, c.deref.ensures.value, ← c.self.view_is))
