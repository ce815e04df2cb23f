use Rattle.std.proofs.Common.{◌∙◌, sym, ap, length, ne_eqb}
use Rattle.std.specs.Cmp.Lexicographic.{unequal}
use Rattle.wasmi_arena.proofs.Compared.{eq_of_parts}
use Rattle.wasmi_arena.proofs.stable_vec.compared.StableVecPartialEq.eq.Goals as goal

pub returns-then-self-other : goal.returns-then-self-other
returns-then-self-other g c =
    eq_of_parts g.T.PartialEq.eq _ _ c.slices.ensures.bound c.slices-then-self-other.ensures.bound (rw (c.slices.ensures.parts, c.slices-then-self-other.ensures.parts) at c.eq.ensures.ran)

pub returns-else-self-other : goal.returns-else-self-other
returns-else-self-other g c =
    let one = c.self.invariant.items_counted ∙ ap length c.self.view_is in
    let two = c.other.invariant.items_counted ∙ ap length c.other.view_is in
    ne_eqb _ _ c.if-self-other.false ∙ sym (unequal g.T.PartialEq.eq _ _ (λ same. c.if-self-other.false (one ∙ (same ∙ sym two))))
