use Rattle.std.proofs.Common.{string_bytes, ◌&&◌, ◌∙◌, ap, sym}
use Rattle.std.specs.Cmp.Lexicographic.{pointwise}
use Rattle.wasmi_interner.proofs.JoinedTexts.{part_eq, texts_equal}
use Rattle.wasmi_interner.proofs.texts.TextsPartialEq.eq.Goals as goal

pub returns-then-eq : goal.returns-then-eq
returns-then-eq g c =
    let one = c.self.inside in let two = c.other.inside in
    rw (← c.self.view_is, ← c.other.view_is) (
    c.eq-then-eq.ensures ∙ (ap (λ same. same && pointwise part_eq one.parts.items two.parts.items) (sym c.if-eq.true ∙ c.eq.ensures)
    ∙ texts_equal (string_bytes one.joined) (string_bytes two.joined) one.parts.items two.parts.items c.self.invariant c.other.invariant))

pub returns-else-eq : goal.returns-else-eq
returns-else-eq g c =
    let one = c.self.inside in let two = c.other.inside in
    rw (← c.self.view_is, ← c.other.view_is) (
    c.if-eq.false ∙ (ap (λ same. same && pointwise part_eq one.parts.items two.parts.items) (sym c.if-eq.false ∙ c.eq.ensures)
    ∙ texts_equal (string_bytes one.joined) (string_bytes two.joined) one.parts.items two.parts.items c.self.invariant c.other.invariant))
