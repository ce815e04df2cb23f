use Rattle.wasmi_arena.proofs.ArenaSteps.{swap_steps}
use Rattle.wasmi_arena.proofs.stable_arena.any.StableArenaAnyArena.swap.Goals as goal

pub returns-clause-ok : goal.returns-clause-ok
returns-clause-ok g c = swap_steps g.Key.ArenaKey.keys _ _ _ _ _ c.swap.ensures.aliasing c.swap.ensures.out_of_bounds c.swap.ensures.ok
