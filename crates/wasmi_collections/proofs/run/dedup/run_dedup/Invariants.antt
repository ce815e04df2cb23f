use Rattle.std.proofs.Common.{◌≡◌, vec_len, vec_capacity, length}
use Rattle.wasmi_collections.specs.DedupSteps.{DedupStep}
use Rattle.wasmi_collections.specs.Runs.{IsRun}
use Rattle.wasmi_collections.proofs.run.dedup.run_dedup.Given as goal

-- the replies so far are those to the commands so far
abbrev pub invariant-loop-command : goal.invariant-loop-command
invariant-loop-command g l =
    IsRun (DedupStep g.Key.ArenaKey.keys g.T.PartialEq.eq g.T.Clone.is_clone) (λ state. state) l.fn.arena l.yielded l.replies.items l.arena
    × (vec_len l.replies ≡ length l.yielded) × (vec_capacity l.replies ≡ vec_len l.fn.commands)
