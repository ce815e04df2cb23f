use Rattle.std.proofs.Common.{◌≡◌, ◌+◌, ◌∙◌, [], ◌∷◌, ◌++◌, ap, arith, length, subst, sym, vec_items}
use Rattle.std.proofs.lemmas.List.{length-append}
use Rattle.wasmi_interner.specs.inner.RestBlocks.{AreFew, RestState}
use Rattle.wasmi_interner.proofs.RestBlocks.{opened, width_pos}
use Rattle.wasmi_interner.proofs.rest.Rest.open.Goals as goal

pub invariant_of-self-2 : goal.invariant_of-self-2
invariant_of-self-2 g c =
    let blocks = vec_items c.self.inside.blocks in let block = c.in_ok-block.block in let w = c.self.inside.width in let is = c.self.invariant in
    let none = ap (λ (s : RestState). s.room) c.self.view_is ∙ c.requires.full in
    let next = opened w blocks block (width_pos w is.0) is.2 none c.in_ok-block.ensures.0 c.in_ok-block.ensures.1 in
    let few = subst (λ (s : RestState). AreFew s.width (s.blocks + 1)) (sym c.self.view_is) c.requires.few in
    let one : length blocks + 1 ≡ length (blocks ++ block ∷ []) = omega (arith, length-append blocks (block ∷ [])) in
    rw (c.push_reserved.ensures.items, c.reserve.ensures.items) (is.0, subst (AreFew w) one few, next.0, is.3 ∙ ap length (sym next.1))

pub returns-clause-ok : goal.returns-clause-ok
returns-clause-ok g c =
    let blocks = vec_items c.self.inside.blocks in let block = c.in_ok-block.block in let w = c.self.inside.width in
    let none = ap (λ (s : RestState). s.room) c.self.view_is ∙ c.requires.full in
    rw (c.push_reserved.ensures.items, c.reserve.ensures.items)
    (opened w blocks block (width_pos w c.self.invariant.0) c.self.invariant.2 none c.in_ok-block.ensures.0 c.in_ok-block.ensures.1).2
