use Rattle.std.proofs.Common.{rules, arith, ◌≡◌, ◌+◌, [], ◌∷◌, ◌++◌, take, ◌∙◌, ap, sym, length-append}
use Rattle.std.proofs.lemmas.List.{take_more}
use Rattle.std.proofs.lemmas.List.Elements.{AllZip-push}
use Rattle.wasmi_arena.proofs.bucket.Bucket.push_clones.Goals as goal

pub loop-slot-preserved : goal.loop-slot-preserved
loop-slot-preserved g c =
    let inv = c.loop-slot.invariant in let below = c.loop-slot-test.true in let enough = c.requires.free in
    let more : take (c.loop-slot.slot + 1) c.args.items.now ≡ take c.loop-slot.slot c.args.items.now ++ c.index-items-slot.result ∷ [] =
    (take_more c.args.items.now c.loop-slot.slot c.index-items-slot.result below ∙ ap (λ x. take c.loop-slot.slot c.args.items.now ++ x ∷ []) (sym c.index-items-slot.is)) in
    record {
      one = search rules;
      pointer = inv.pointer;
      capacity = inv.capacity;
      taken = search rules;
      items = rw (more, c.write.ensures) (AllZip-push g.T.Clone.is_clone _ _ _ _ inv.items c.in-Ok.ensures.cases);
      counted = rw c.write.ensures (omega (arith, inv.counted, length-append c.loop-slot.self-inside.slots.items (c.in-Ok.clone ∷ [])));
      free = rw c.write.ensures (omega (arith, inv.free, inv.capacity));
    }
