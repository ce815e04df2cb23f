use Rattle.std.proofs.Common.{◌≡◌, vec_len, vec_capacity, length}
use Rattle.wasmi_collections.specs.SetSteps.{SetStep}
use Rattle.wasmi_collections.specs.Runs.{IsRun}
use Rattle.wasmi_collections.proofs.run.set.run_set.Given as goal

-- the replies so far are those to the commands so far
abbrev pub invariant-loop-command : goal.invariant-loop-command
invariant-loop-command g l =
    IsRun (SetStep g.S.AnySet.eq) g.S.AnySet.elements l.fn.set l.yielded l.replies.items l.set
    × (vec_len l.replies ≡ length l.yielded) × (vec_capacity l.replies ≡ vec_len l.fn.commands)
