use Rattle.wasmi_arena.proofs.WalkedKeys.{walked_entry}
use Rattle.wasmi_arena.proofs.laws.walked_entries_read.Goals as goal

pub returns-clause-place : goal.returns-clause-place
returns-clause-place g c = λ items start seen key item now left few begun gave next.
    (walked_entry g.Key.ArenaKey.keys g.met.Key.ArenaKey.key_law items start seen key item now left few begun gave next).0

pub returns-clause-within : goal.returns-clause-within
returns-clause-within g c = λ items start seen key item now left few begun gave next.
    (walked_entry g.Key.ArenaKey.keys g.met.Key.ArenaKey.key_law items start seen key item now left few begun gave next).1

pub returns-clause-reads : goal.returns-clause-reads
returns-clause-reads g c = λ items start seen key item now left few begun gave next.
    (walked_entry g.Key.ArenaKey.keys g.met.Key.ArenaKey.key_law items start seen key item now left few begun gave next).2
