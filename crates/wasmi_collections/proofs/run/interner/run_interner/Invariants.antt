use Rattle.std.proofs.Common.{◌≡◌, vec_len, vec_capacity, length}
use Rattle.wasmi_collections.specs.InternerSteps.{InternStep}
use Rattle.wasmi_collections.specs.Runs.{IsRun}
use Rattle.wasmi_collections.proofs.run.interner.run_interner.Given as goal

-- the replies so far are those to the commands so far
abbrev pub invariant-loop-command : goal.invariant-loop-command
invariant-loop-command g l =
    IsRun InternStep (λ texts. texts) l.fn.interner l.yielded l.replies.items l.interner
    × (vec_len l.replies ≡ length l.yielded) × (vec_capacity l.replies ≡ vec_len l.fn.commands)
