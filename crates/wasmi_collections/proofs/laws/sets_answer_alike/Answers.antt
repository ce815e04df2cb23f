use Rattle.std.proofs.Common.{sym, subst}
use Rattle.wasmi_collections.specs.SetSteps.{SetStep, SameElements, AcceptsSetCommand}
use Rattle.wasmi_collections.specs.Runs.{IsRun}
use Rattle.wasmi_collections.proofs.Runs.{IsRun-alike}
use Rattle.wasmi_collections.proofs.SetRuns.{SetStep-alike}
use Rattle.wasmi_collections.proofs.laws.sets_answer_alike.Goals as goal

pub returns : goal.returns
returns g c = λ agree a c' b d commands one other same first second ok fine.
    let eq = g.S.AnySet.eq in let elements = g.U.AnySet.elements in
    let second' : IsRun (SetStep eq) elements b commands other d = subst (λ e. IsRun (SetStep e) elements b commands other d) (λ i x y. sym (agree x y) i) second in
    IsRun-alike (SetStep eq) (SetStep eq) (SameElements eq) AcceptsSetCommand (SetStep-alike eq) g.S.AnySet.elements elements a b commands one other c' d same first second' ok fine
