use Rattle.std.proofs.Common.{◌≡◌, vec_len, vec_capacity, length}
use Rattle.wasmi_collections.specs.MapSteps.{MapStep}
use Rattle.wasmi_collections.specs.Runs.{IsRun}
use Rattle.wasmi_collections.proofs.run.map.run_map.Given as goal

-- the replies so far are those to the commands so far
abbrev pub invariant-loop-command : goal.invariant-loop-command
invariant-loop-command g l =
    IsRun (MapStep g.M.AnyMap.eq) g.M.AnyMap.entries l.fn.map l.yielded l.replies.items l.map
    × (vec_len l.replies ≡ length l.yielded) × (vec_capacity l.replies ≡ vec_len l.fn.commands)
