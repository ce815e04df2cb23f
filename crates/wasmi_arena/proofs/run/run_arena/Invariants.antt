use Rattle.std.proofs.Common.{◌≡◌, vec_len, vec_capacity, length}
use Rattle.wasmi_arena.specs.Arena.{arena_limit, ArenaRun}
use Rattle.wasmi_arena.proofs.run.run_arena.Given as goal

-- the replies so far are those to the commands so far
abbrev pub invariant-loop-command : goal.invariant-loop-command
invariant-loop-command g l =
    ArenaRun g.Key.ArenaKey.keys (arena_limit g.Key.ArenaKey.keys g.S.AnyArena.BOUNDED) g.S.AnyArena.state l.fn.arena l.yielded l.replies.items l.arena
    × (vec_len l.replies ≡ length l.yielded) × (vec_capacity l.replies ≡ vec_len l.fn.commands)
