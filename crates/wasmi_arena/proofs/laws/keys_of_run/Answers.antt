use Rattle.wasmi_arena.specs.Arena.{arena_limit}
use Rattle.wasmi_arena.proofs.RunReplies.{keys_of_run}
use Rattle.wasmi_arena.proofs.laws.keys_of_run.Goals as goal

pub returns : goal.returns
returns g c = keys_of_run g.Key.ArenaKey.keys (arena_limit g.Key.ArenaKey.keys g.S.AnyArena.BOUNDED) g.S.AnyArena.state
