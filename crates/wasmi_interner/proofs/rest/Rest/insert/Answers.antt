use Rattle.std.proofs.Common.{◌≡◌, ◌<◌, ◌+◌, ◌-◌, ◌*◌, ◌∙◌, sym, ap, subst, arith, length, slice_set, vec_items}
use Rattle.std.specs.List.{insert}
use Rattle.std.proofs.lemmas.List.{length-set}
use Rattle.std.proofs.lemmas.List.Edits.{length-insert}
use Rattle.wasmi_interner.specs.inner.RestBlocks.{AreFew, IsBlocks, RestState, entries_in}
use Rattle.wasmi_interner.proofs.RestBlocks.{fits_last, full, goes, pushed_out, put_last, width_pos}
use Rattle.wasmi_interner.proofs.rest.Rest.insert.Goals as goal

pub loop-block-init : goal.loop-block-init
loop-block-init g c =
    let blocks = vec_items c.self.inside.blocks in let w = c.self.inside.width in let is = c.self.invariant in
    let at = goes w c.args.rank c.block_of-block.result c.place_of-place.result blocks c.args.self.now c.self.view_is is.2 c.requires.room c.requires.within c.block_of-block.ensures c.place_of-place.ensures in
    record {
      width = is.0;
      few = is.1;
      blocks = is.2;
      len = omega (arith, is.3, ap (λ (s : RestState). length s.entries) c.self.view_is);
      last = omega (arith, at.0, c.len-last.ensures, c.self.inside.blocks.ok);
      block = omega (arith, at.0, c.len-last.ensures, c.self.inside.blocks.ok);
      place = at.1;
      within = omega (arith, at.2, at.4);
      room = at.3;
      same = ap (λ k. insert (entries_in blocks) k c.args.entry) (sym at.2) ∙ ap (λ (s : RestState). insert s.entries c.args.rank c.args.entry) c.self.view_is;
    }

pub push_out-carried-requires : goal.push_out-carried-requires
push_out-carried-requires g c =
    let now = c.loop-block in let same = c.index_mut.ensures.value in
    let all = full now.self-inside.width (vec_items now.self-inside.blocks) now.block c.index_mut.result.now now.invariant.blocks (omega (arith, now.invariant.last, c.loop-block-test.true)) in
    record {
      full = ap (λ b. length b.entries) same ∙ (all.0.full ∙ (sym all.0.width ∙ ap (λ b. b.width) (sym same)));
      within = omega (arith, now.invariant.place, all.0.width, ap (λ b. b.width) same);
    }

pub loop-block-preserved : goal.loop-block-preserved
loop-block-preserved g c =
    let now = c.loop-block in let blocks = vec_items now.self-inside.blocks in let block = now.block in let w = now.self-inside.width in let new = c.push_out-carried.new.self in
    let before : block + 1 < length blocks = omega (arith, now.invariant.last, c.loop-block-test.true) in
    let next = pushed_out w blocks block now.place (block * w + now.place) now.carried c.push_out-carried.result c.index_mut.result.now new now.invariant.blocks before now.invariant.place (omega arith) c.index_mut.ensures.value c.push_out-carried.ensures.width c.push_out-carried.ensures.entries in
    let long = length-set blocks block new in
    let front : (block + 1) * w + 0 ≡ (block + 1) * w = omega arith in
    let past = full w (slice_set blocks block new) block new next.0 (omega (arith, before, long)) in
    record {
      width = now.invariant.width;
      few = subst (λ n. AreFew w n) (sym long) now.invariant.few;
      blocks = next.0;
      len = now.invariant.len;
      last = omega (arith, now.invariant.last, long);
      block = omega (arith, c.loop-block-test.true);
      place = width_pos w now.invariant.width;
      within = omega (arith, past.1);
      room = omega (arith, next.1, now.invariant.room);
      same = ap (λ k. insert (entries_in (slice_set blocks block new)) k c.push_out-carried.result) front ∙ (next.2 ∙ now.invariant.same);
    }

-- what is carried at last goes into the last block
pub put-requires : goal.put-requires
put-requires g c =
    let now = c.loop-block in let block = c.index_mut-2.result.now in
    let here : now.block ≡ c.len-last.result - 1 = omega (arith, now.invariant.block, c.loop-block-test.false) in
    let fits = fits_last now.self-inside.width (vec_items now.self-inside.blocks) (c.len-last.result - 1) block block now.invariant.blocks now.invariant.last now.invariant.room c.index_mut-2.ensures.value in
    record {
      within = omega (arith, fits.0, now.invariant.within, ap (λ k. k * now.self-inside.width) here);
      free = omega (arith, fits.1, fits.2);
    }

into_last : (g : _) (c : goal.After-self-2-1 g) → let now = slice_set (vec_items c.loop-block.self-inside.blocks) (c.len-last.result - 1) c.put.new.self in
    IsBlocks c.loop-block.self-inside.width now × (entries_in now ≡ insert c.args.self.now.entries c.args.rank c.args.entry)
into_last g c =
    let now = c.loop-block in let blocks = vec_items now.self-inside.blocks in let w = now.self-inside.width in let last = c.len-last.result - 1 in let block = c.index_mut-2.result.now in
    let here : now.block ≡ last = omega (arith, now.invariant.block, c.loop-block-test.false) in
    let at : now.block * w + now.place ≡ last * w + now.place = ap (λ k. k * w + now.place) here in
    let fits = fits_last w blocks last block block now.invariant.blocks now.invariant.last now.invariant.room c.index_mut-2.ensures.value in
    let next = put_last w blocks last now.place (now.block * w + now.place) now.carried block c.put.new.self now.invariant.blocks now.invariant.last now.invariant.room at (omega (arith, fits.0, now.invariant.within, at)) c.index_mut-2.ensures.value c.put.ensures in
    (next.0, next.1 ∙ now.invariant.same)

pub invariant_of-self : goal.invariant_of-self
invariant_of-self g c =
    let now = c.loop-block in let next = into_last g c in
    let few = subst (λ n. AreFew now.self-inside.width n) (sym (length-set (vec_items now.self-inside.blocks) (c.len-last.result - 1) c.put.new.self)) now.invariant.few in
    (now.invariant.width, few, next.0, omega (arith, now.invariant.len, ap length next.1, length-insert c.args.self.now.entries c.args.rank c.args.entry c.requires.within))

pub returns : goal.returns
returns g c = (into_last g c).1
