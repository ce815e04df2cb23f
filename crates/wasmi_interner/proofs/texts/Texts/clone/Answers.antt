use Rattle.std.proofs.lemmas.List.Elements.{same_from_all_zip}
use Rattle.wasmi_interner.proofs.texts.Texts.clone.Goals as goal

pub returns : goal.returns
returns g c =
    rw (c.in_ok-clone.ensures.cases, same_from_all_zip _ c.self.inside.parts.items c.in_ok-clone-2.field-0.items c.in_ok-clone-2.ensures.cases.0 (λ x y same. same)) c.self.view_is

pub invariant_of-result : goal.invariant_of-result
invariant_of-result g c =
    rw (c.in_ok-clone.ensures.cases, same_from_all_zip _ c.self.inside.parts.items c.in_ok-clone-2.field-0.items c.in_ok-clone-2.ensures.cases.0 (λ x y same. same)) c.self.invariant
