use Rattle.wasmi_arena.specs.Arena.{arena_limit}
use Rattle.wasmi_arena.proofs.RunReplies.{room_left_by_run}
use Rattle.wasmi_arena.proofs.laws.room_after_run.Goals as goal

pub returns : goal.returns
returns g c = room_left_by_run g.Key.ArenaKey.keys (arena_limit g.Key.ArenaKey.keys g.S.AnyArena.BOUNDED) g.S.AnyArena.state
