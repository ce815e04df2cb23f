use Rattle.std.proofs.Common.{Some, sym, ap, ◌∙◌, [], ◌∷◌, ◌++◌, arith}
use Rattle.std.proofs.lemmas.Iterator.Adapters.{position_from-zero}
use Rattle.wasmi_interner.proofs.Symbols.{found_last}
use Rattle.wasmi_collections.proofs.DedupRuns.{position-stays}
use Rattle.wasmi_collections.proofs.laws.appended.appended_values.Goals as goal

pub returns-clause-last : goal.returns-clause-last
returns-clause-last g c values value absent =
    let eq = g.T.PartialEq.eq in
    position_from-zero (eq value) (values ++ value ∷ [])
    ∙ (found_last (eq value) value 0 values (sym (position_from-zero (eq value) values) ∙ absent) (g.met.T.Eq.laws.refl value) ∙ ap Some (omega arith))

pub returns-clause-kept : goal.returns-clause-kept
returns-clause-kept g c values more value place is = position-stays (g.T.PartialEq.eq value) values more place is
