use Rattle.std.proofs.Common.{◌∙◌, ◌&&◌}
use Rattle.std.specs.Cmp.Lexicographic.{pointwise}
use Rattle.wasmi_ordered.proofs.SameInOrder.{equal_in_order}
use Rattle.wasmi_ordered.proofs.laws.equal_maps.Goals as goal

pub returns : goal.returns
returns g c =
    let a = c.args.a.now in let b = c.args.b.now in
    c.eq.ensures
    ∙ (λ i. pointwise (λ one other. g.met.K.Ord.matches_eq one.0 other.0 i && g.V.PartialEq.eq one.1 other.1) a b)
    ∙ equal_in_order g.met.K.Ord.total g.V.PartialEq.eq a b c.len.ensures.ascending c.len-2.ensures.ascending
