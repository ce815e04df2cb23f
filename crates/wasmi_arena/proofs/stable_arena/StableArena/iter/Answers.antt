use Rattle.std.proofs.Common.{arith, ◌∙◌, ap, length}
use Rattle.wasmi_arena.proofs.Entries.{length-entries_from}
use Rattle.wasmi_arena.proofs.stable_arena.StableArena.iter.Goals as goal

pub returns-clause-len : goal.returns-clause-len
returns-clause-len g c = length-entries_from g.Key.ArenaKey.keys 0 c.iter.result ∙ ap length (c.iter.ensures.items ∙ c.self.view_is)

pub returns-clause-entries : goal.returns-clause-entries
returns-clause-entries g c = grind arith

pub returns-clause-bound : goal.returns-clause-bound
returns-clause-bound g c = grind arith
