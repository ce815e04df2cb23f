use Rattle.wasmi_arena.proofs.ArenaSteps.{alloc_steps, alloc_refused}
use Rattle.wasmi_arena.proofs.stable_arena.any.StableArenaAnyArena.alloc.Goals as goal

pub returns-clause-ok : goal.returns-clause-ok
returns-clause-ok g c = alloc_steps g.Key.ArenaKey.keys _ _ _ _ c.alloc.ensures.key c.alloc.ensures.ok c.alloc.ensures.has_key

pub returns-clause-err : goal.returns-clause-err
returns-clause-err g c = alloc_refused g.Key.ArenaKey.keys _ _ _ c.alloc.ensures.errors c.alloc.ensures.no_key c.alloc.ensures.memory c.alloc.ensures.err
