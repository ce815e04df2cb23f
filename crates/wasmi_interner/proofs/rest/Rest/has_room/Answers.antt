use Rattle.std.proofs.Common.{◌-◌, ◌∙◌, not, ◌==◌, nat_lt, ap, arith, length, sym, vec_items}
use Rattle.wasmi_interner.specs.inner.RestBlocks.{RestState}
use Rattle.wasmi_interner.proofs.RestBlocks.{counted, not_full}
use Rattle.wasmi_interner.proofs.rest.Rest.has_room.Goals as goal

pub returns-then-len-gt0 : goal.returns-then-len-gt0
returns-then-len-gt0 g c =
    let blocks = vec_items c.self.inside.blocks in let last = c.len-len.result - 1 in let block = c.index.result.now in let w = c.self.inside.width in
    let many = counted w blocks last block c.self.invariant.2 (omega (arith, c.len-len.ensures, c.self.inside.blocks.ok, c.if-len-gt0.true)) in
    let same = c.index.ensures in
    let long = ap (λ b. length b.entries) same in
    let wide = ap (λ b. b.width) same ∙ many.2 in
    ap not (c.is_full.ensures ∙ ap (λ k. length block.entries == k) wide)
    ∙ (not_full (length block.entries) w (omega (arith, long, many.3))
    ∙ ap (nat_lt 0) (ap (λ k. w - k) long ∙ (sym many.1 ∙ ap (λ (s : RestState). s.room) c.self.view_is)))
