use Rattle.std.proofs.Common.{zero-add, ap, ◌∙◌}
use Rattle.wasmi_arena.specs.Entries.{entries}
use Rattle.wasmi_arena.proofs.stable_arena.into_iter.StableArenaIntoIterator.into_iter.Goals as goal

pub invariant_of-result : goal.invariant_of-result
invariant_of-result g c = rw (zero-add, c.into_iter.ensures.into_iter_gives) c.self.invariant

pub returns : goal.returns
returns g c = record { into_iter_gives = ap (entries g.Key.ArenaKey.keys) (c.into_iter.ensures.into_iter_gives ∙ c.self.view_is) }
