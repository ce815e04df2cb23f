use Rattle.std.proofs.Common.{◌∙◌, ap, vec_items}
use Rattle.std.specs.List.{each_same}
use Rattle.wasmi_interner.specs.inner.RestBlocks.{entries_in}
use Rattle.wasmi_interner.specs.inner.RestBlocks.{RestState}
use Rattle.wasmi_interner.proofs.rest.Rest.clone.Goals as goal

pub invariant_of-result : goal.invariant_of-result
invariant_of-result g c =
    let same = each_same (vec_items c.self.inside.blocks) (vec_items c.in_ok-clone.field-0) c.in_ok-clone.ensures.cases.0 in
    rw (same, c.copy.ensures) c.self.invariant

pub returns-clause-entries : goal.returns-clause-entries
returns-clause-entries g c =
    let same = each_same (vec_items c.self.inside.blocks) (vec_items c.in_ok-clone.field-0) c.in_ok-clone.ensures.cases.0 in
    ap entries_in same ∙ ap (λ (s : RestState). s.entries) c.self.view_is
