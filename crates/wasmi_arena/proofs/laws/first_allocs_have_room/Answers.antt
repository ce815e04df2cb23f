use Rattle.wasmi_arena.specs.Arena.{arena_limit}
use Rattle.wasmi_arena.proofs.ArenaSteps.{room_of_run}
use Rattle.wasmi_arena.proofs.laws.first_allocs_have_room.Goals as goal

pub returns : goal.returns
returns g c = room_of_run g.Key.ArenaKey.keys (arena_limit g.Key.ArenaKey.keys g.S.AnyArena.BOUNDED) g.S.AnyArena.state
