use Rattle.std.proofs.Common.{◌%◌, ℕ, subst, ◌≡◌, ◌<◌, ◌≤◌, ◌+◌, ◌∙◌, ◌++◌, [], ◌∷◌, ap, sym, arith, length, vec_items}
use Rattle.std.proofs.lemmas.List.{length-append, take_all}
use Rattle.std.proofs.lemmas.List.Elements.{All-append}
use Rattle.wasmi_interner.specs.inner.RestBlocks.{IsFull, RestState, entries_in}
use Rattle.wasmi_interner.proofs.RestBlocks.{full_at, full_one, joined_more, of_full}
use Rattle.wasmi_interner.proofs.rest.Rest.joined.Goals as goal

-- there is one more behind the next
one_more : (next made many : ℕ) → next ≡ made + made → many % 2 ≡ 0 → next < many → next + 1 < many
one_more next made many twos even before = omega (arith, before, twos, even)

pub joined-requires : goal.joined-requires
joined-requires g c =
    let blocks = vec_items c.self.inside.blocks in let w = c.self.inside.width in let now = c.loop-next in
    let seen = subst (λ (s : RestState). (s.room ≡ 0) × (s.blocks % 2 ≡ 0) × (s.width + s.width ≡ c.args.width.now)) (sym c.self.view_is) (c.requires.full, c.requires.even, c.requires.twice) in
    let before = one_more now.next (length (vec_items now.wider)) (length blocks) now.invariant.twos seen.1 (omega (arith, c.loop-next-test.true, c.len-in-loop-next.ensures, c.self.inside.blocks.ok)) in
    let one = full_at w blocks now.next c.index.result.now c.self.invariant.2 seen.0 (omega (arith, before)) c.index.ensures in
    let other = full_at w blocks (now.next + 1) c.index-in-loop-next.result.now c.self.invariant.2 seen.0 before c.index-in-loop-next.ensures in
    record { one = one.full ∙ sym one.width; other = other.full ∙ sym other.width; width = omega (arith, one.width, other.width, seen.2) }

pub loop-next-preserved : goal.loop-next-preserved
loop-next-preserved g c =
    let blocks = vec_items c.self.inside.blocks in let w = c.self.inside.width in let now = c.loop-next in let wider = vec_items now.wider in
    let block = c.in_ok-block.block in let one = c.index.result.now in let other = c.index-in-loop-next.result.now in
    let seen = subst (λ (s : RestState). (s.room ≡ 0) × (s.blocks % 2 ≡ 0) × (s.width + s.width ≡ c.args.width.now)) (sym c.self.view_is) (c.requires.full, c.requires.even, c.requires.twice) in
    let before = one_more now.next (length wider) (length blocks) now.invariant.twos seen.1 (omega (arith, c.loop-next-test.true, c.len-in-loop-next.ensures, c.self.inside.blocks.ok)) in
    let pushed = c.push_reserved.ensures.items in
    let many : length (vec_items c.push_reserved.new.self) ≡ length wider + 1 = omega (arith, ap length pushed, length-append wider (block ∷ [])) in
    let pair : block.entries ≡ one.entries ++ other.entries = c.in_ok-block.ensures.0 in
    let first = full_at w blocks now.next one c.self.invariant.2 seen.0 (omega (arith, before)) c.index.ensures in
    let second = full_at w blocks (now.next + 1) other c.self.invariant.2 seen.0 before c.index-in-loop-next.ensures in
    let long : length block.entries ≡ c.args.width.now = omega (arith, ap length pair, length-append one.entries other.entries, first.full, second.full, seen.2) in
    record {
      twos = omega (arith, many, now.invariant.twos);
      within = omega (arith, before);
      full = rw pushed (All-append (IsFull c.args.width.now) wider (block ∷ []) now.invariant.full (full_one c.args.width.now block (record { width = c.in_ok-block.ensures.1; full = long })));
      same = ap entries_in pushed ∙ joined_more blocks wider now.next block one other before c.index.ensures c.index-in-loop-next.ensures pair now.invariant.same;
      room = c.push_reserved.ensures.capacity ∙ now.invariant.room;
    }

pub returns : goal.returns
returns g c =
    let blocks = vec_items c.self.inside.blocks in let now = c.loop-next in
    let all = of_full c.args.width.now (vec_items now.wider) now.invariant.full in
    let end : length blocks ≤ now.next = omega (arith, now.invariant.within, c.loop-next-test.false, c.len-in-loop-next.ensures, c.self.inside.blocks.ok) in (
      all.0,
      all.1,
      omega (arith, now.invariant.twos, now.invariant.within, end, ap (λ (s : RestState). s.blocks) c.self.view_is),
      now.invariant.same ∙ (ap entries_in (take_all now.next blocks end) ∙ ap (λ (s : RestState). s.entries) c.self.view_is),
    )
