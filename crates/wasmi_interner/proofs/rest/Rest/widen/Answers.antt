use Rattle.std.proofs.Common.{◌≡◌, ◌%◌, ◌≤◌, ◌/◌, ◌∙◌, ap, arith, sym, inl, inr, length, vec_items}
use Rattle.wasmi_interner.specs.inner.RestBlocks.{RestState}
use Rattle.wasmi_interner.proofs.RestBlocks.{all_full, even_many, few_joined, widened, width_pos}
use Rattle.wasmi_interner.proofs.rest.Rest.widen.Goals as goal
use Rattle.wasmi_interner.proofs.rest.Rest.widen.Goals.{else-len-width-via-then-len-width+else-width-ge-ALONE, then-len-ne1, else-len-ne1, else-len-width-via-else-len-width, then-len-eq1+in_ok-widen, else-len-eq1+in_ok-self-inside}

pub joined-requires-clause-even : goal.joined-requires-clause-even
joined-requires-clause-even g c =
    let blocks = vec_items c.self.inside.blocks in let w = c.self.inside.width in
    let long : c.len-len.result ≡ length blocks = omega (arith, c.len-len.ensures, c.self.inside.blocks.ok) in
    let many : w / 16 ≤ length blocks = elim c.else-len-width.branch [
      | else-len-width-via-then-len-width+else-width-ge-ALONE v ↦ elim v.if-len-ne1.branch [
        | then-len-ne1 u ↦ absurd (omega (arith, u.if-len-ne1.true, v.if-width-ge-ALONE.false, long))
        | else-len-ne1 u ↦ absurd (omega (arith, u.if-len-ne1.false, c.if-len-eq1.false))
      ]
      | else-len-width-via-else-len-width v ↦ omega (arith, v.if-len-width.false, long, c.get-width.ensures.value)
    ] in
    ap (λ (s : RestState). s.blocks % 2) (sym c.self.view_is) ∙ even_many w (length blocks) c.self.invariant.0 c.self.invariant.1 c.in-Some.ensures.next.1 many (λ one. c.if-len-eq1.false (long ∙ one))

pub returns-after-len-eq1-clause-ok : goal.returns-after-len-eq1-clause-ok
returns-after-len-eq1-clause-ok g c =
    let blocks = vec_items c.self.inside.blocks in let w = c.self.inside.width in let next = c.in-Some.ensures.next in
    let none = ap (λ (s : RestState). s.room) c.self.view_is ∙ c.requires in
    elim c.if-len-eq1.branch [
      | then-len-eq1+in_ok-widen v ↦
          (let block = v.index_mut.result.now in
          let alone : length blocks ≡ 1 = omega (arith, v.if-len-eq1.true, c.len-len.ensures, c.self.inside.blocks.ok) in
          let full = all_full w blocks c.self.invariant.2 none 0 block (omega (arith, alone)) in
          rw (v.self-inside-is) (inl (widened c.in-Some.next w blocks block v.widen.new.self alone (sym next.0) (omega (arith, width_pos w c.self.invariant.0, next.0)) full
          (v.widen.ensures.entries ∙ ap (λ b. b.entries) v.index_mut.ensures.value) v.in_ok-widen.ensures.ok).1))
      | else-len-eq1+in_ok-self-inside v ↦
          (let now = vec_items v.in_ok-self-inside.field-0 in
          let half = v.in_ok-self-inside.ensures.2 ∙ ap (λ (s : RestState). s.blocks) (sym c.self.view_is) in
          rw (v.self-inside-is) (inr (inl (omega (arith, next.0, few_joined w (length blocks) (length now) c.self.invariant.0 c.self.invariant.1 next.1 half)))))
    ]
