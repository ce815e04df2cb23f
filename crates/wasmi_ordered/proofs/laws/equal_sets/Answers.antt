use Rattle.std.proofs.Common.{◌∙◌}
use Rattle.std.specs.Cmp.Lexicographic.{pointwise}
use Rattle.wasmi_ordered.proofs.SameInOrder.{equal_sets_in_order}
use Rattle.wasmi_ordered.proofs.laws.equal_sets.Goals as goal

pub returns : goal.returns
returns g c =
    let a = c.args.a.now in let b = c.args.b.now in
    c.eq.ensures
    ∙ (λ i. pointwise (λ one other. g.met.T.Ord.matches_eq one other i) a b)
    ∙ equal_sets_in_order g.met.T.Ord.total a b c.len.ensures.ascending c.len-2.ensures.ascending
