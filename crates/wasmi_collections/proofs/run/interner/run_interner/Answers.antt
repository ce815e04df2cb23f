use Rattle.std.proofs.Common.{vec_capacity, ◌∙◌}
use Rattle.wasmi_collections.specs.InternerSteps.{InternStep}
use Rattle.wasmi_collections.proofs.Runs.{IsRun-append, counts_on}
use Rattle.wasmi_collections.proofs.run.interner.run_interner.Goals as goal

pub loop-command-preserved : goal.loop-command-preserved
loop-command-preserved g c =
    let so_far = c.loop-command.invariant in
    let goes_on = IsRun-append InternStep (λ texts. texts) _ _ _ _ _ _ _ so_far.0 c.perform.ensures in (
      rw c.push_reserved.ensures.items goes_on,
      counts_on c.push_reserved.new.self.len _ c.loop-command.yielded c.in-Some.command c.push_reserved.ensures.len so_far.1,
      ◌∙◌ {a = vec_capacity c.push_reserved.new.self} c.push_reserved.ensures.capacity so_far.2,
    )
