use Rattle.std.proofs.Common.{◌≡◌, ◌-◌, ◌≤◌, ◌∙◌, count_by, is_some, length, take, refl, subst, arith}
use Rattle.std.specs.Slice.Iter.{iter_rest}
use Rattle.wasmi_dense.specs.ComponentEntries.{components_from}
use Rattle.wasmi_dense.proofs.ComponentEntries.{length-components_from, components-le-extent}
use Rattle.wasmi_dense.proofs.component_vec.ComponentVec.iter.Goals as goal

pub returns-clause-len : goal.returns-clause-len
returns-clause-len g c =
    let keys = g.Key.ArenaKey.keys in let all : keys.count - 0 ≡ keys.count = omega arith in
    let same : iter_rest c.iter.result ≡ c.args.self.now = rw (c.iter.ensures.rest, c.deref.ensures.value, ← c.self.view_is) refl in
    length-components_from keys 0 (iter_rest c.iter.result) ∙ (λ i. count_by is_some (take (all i) (same i)))

pub returns-clause-within : goal.returns-clause-within
returns-clause-within g c =
    let slots = iter_rest c.iter.result in
    let same : slots ≡ c.args.self.now = rw (c.iter.ensures.rest, c.deref.ensures.value, ← c.self.view_is) refl in
    subst (λ now. length (components_from g.Key.ArenaKey.keys 0 slots) ≤ length now) same (components-le-extent g.Key.ArenaKey.keys slots)
