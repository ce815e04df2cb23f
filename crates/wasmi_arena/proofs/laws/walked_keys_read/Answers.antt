use Rattle.wasmi_arena.proofs.WalkedKeys.{walked_key}
use Rattle.wasmi_arena.proofs.laws.walked_keys_read.Goals as goal

pub returns : goal.returns
returns g c = walked_key g.Key.ArenaKey.keys g.met.Key.ArenaKey.key_law
