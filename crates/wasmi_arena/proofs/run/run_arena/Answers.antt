use Rattle.std.proofs.Common.{◌∙◌, length-append, arith, [], ◌∷◌}
use Rattle.wasmi_arena.specs.Arena.{arena_limit}
use Rattle.wasmi_arena.proofs.ArenaSteps.{ArenaRun-append}
use Rattle.wasmi_arena.proofs.run.run_arena.Goals as goal

pub loop-command-preserved : goal.loop-command-preserved
loop-command-preserved g c =
    let so_far = c.loop-command.invariant in
    let keys = g.Key.ArenaKey.keys in
    let goes_on = ArenaRun-append keys (arena_limit keys g.S.AnyArena.BOUNDED) g.S.AnyArena.state _ _ _ _ _ _ _ so_far.0 c.perform.ensures in (
      rw c.push_reserved.ensures.items goes_on,
      c.push_reserved.ensures.len ∙ (let counted = so_far.1 in omega (arith, length-append c.loop-command.yielded (c.in-Some.command ∷ []))),
      c.push_reserved.ensures.capacity ∙ so_far.2,
    )
