use Rattle.std.proofs.Common.{sym, subst}
use Rattle.wasmi_collections.specs.MapSteps.{MapStep, SameEntries, AcceptsMapCommand}
use Rattle.wasmi_collections.specs.Runs.{IsRun}
use Rattle.wasmi_collections.proofs.MapRuns.{MapStep-alike}
use Rattle.wasmi_collections.proofs.Runs.{IsRun-alike}
use Rattle.wasmi_collections.proofs.laws.maps_answer_alike.Goals as goal

pub returns : goal.returns
returns g c = λ agree a c' b d commands one other same first second ok fine.
    let eq = g.M.AnyMap.eq in let entries = g.N.AnyMap.entries in
    let second' : IsRun (MapStep eq) entries b commands other d = subst (λ e. IsRun (MapStep e) entries b commands other d) (λ i x y. sym (agree x y) i) second in
    IsRun-alike (MapStep eq) (MapStep eq) (SameEntries eq) AcceptsMapCommand (MapStep-alike eq) g.M.AnyMap.entries entries a b commands one other c' d same first second' ok fine
