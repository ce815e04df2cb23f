use Rattle.wasmi_arena.proofs.Entries.{entry_read}
use Rattle.wasmi_arena.proofs.laws.entries_read.Goals as goal

pub returns : goal.returns
returns g c = entry_read g.Key.ArenaKey.keys g.met.Key.ArenaKey.key_law
