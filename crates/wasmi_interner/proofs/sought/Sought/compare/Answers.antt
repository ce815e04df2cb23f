use Rattle.std.proofs.Common.{◌∙◌, sym}
use Rattle.std.proofs.lemmas.Slice.Eq.{bytes_eq-Decides}
use Rattle.wasmi_interner.specs.LenOrder.{len_cmp}
use Rattle.wasmi_interner.proofs.LengthOrder.{len_cmp-Equal}
use Rattle.wasmi_interner.proofs.Filing.{order_of_text}
use Rattle.wasmi_interner.proofs.sought.Sought.compare.Goals as goal

pub returns-then-eq : goal.returns-then-eq
returns-then-eq g c =
    let text = c.args.self.now.text.now in let other = c.get-other.result.now in
    let told = order_of_text c.args.self.now.texts.now c.args.self.now.hash text c.args.entry other c.into_usize.result (sym c.cmp.ensures ∙ c.in-Equal.is) c.into_usize.ensures.number c.get-other.ensures in
    sym (told ∙ (len_cmp-Equal other text).1 ((bytes_eq-Decides other text).0 (sym c.eq.ensures ∙ c.if-eq.true)))

pub returns : goal.returns
returns g c =
    let text = c.args.self.now.text.now in let other = c.get-other.result.now in
    let told = order_of_text c.args.self.now.texts.now c.args.self.now.hash text c.args.entry other c.into_usize.result (sym c.cmp.ensures ∙ c.in-Equal.is) c.into_usize.ensures.number c.get-other.ensures in
    c.cmp-2.ensures ∙ ((λ i. len_cmp (c.new.ensures i) (c.new-2.ensures i)) ∙ sym told)
