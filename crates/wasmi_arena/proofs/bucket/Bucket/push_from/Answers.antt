use Rattle.std.proofs.Common.{rules, arith, ◌≡◌, ◌+◌, ◌-◌, [], ◌∷◌, ◌++◌, sym, ◌∙◌, ap, length-append, append_assoc}
use Rattle.std.proofs.Math.Nat.{le_antisymm}
use Rattle.wasmi_arena.proofs.Yielded.{yields_more}
use Rattle.wasmi_arena.proofs.bucket.Bucket.push_from.Goals as goal

pub loop-filled-preserved : goal.loop-filled-preserved
loop-filled-preserved g c =
    let inv = c.loop-filled.invariant in let below = c.loop-filled-test.true in let on = c.in-Some.ensures.goes.on inv.finite.0 in
    record {
      one = search rules;
      pointer = inv.pointer;
      capacity = inv.capacity;
      taken = search rules;
      items = rw c.write.ensures (
        inv.items.0 ++ c.in-Some.item ∷ [],
        ap (λ xs. xs ++ c.in-Some.item ∷ []) inv.items.1 ∙ append_assoc c.args.self.now.items inv.items.0 (c.in-Some.item ∷ []),
        yields_more g.I.Iterator.next_gives _ _ _ _ _ inv.items.2 c.in-Some.ensures.steps,
      );
      counted = rw c.write.ensures (omega (arith, inv.counted, length-append c.loop-filled.self-inside.slots.items (c.in-Some.item ∷ [])));
      free = rw c.write.ensures (omega (arith, inv.free, inv.end));
      end = inv.end;
      can = on.0;
      finite = (on.1, let fewer = on.2 in let most = inv.finite.1 in omega arith);
    }

pub returns-in-None-clause-items : goal.returns-in-None-clause-items
returns-in-None-clause-items g c =
    let came = c.loop-filled.invariant.items in (came.0, came.1, (c.next.new.self, (c.loop-filled.items, came.2, c.in-None.ensures.steps)))

pub returns-in-None-clause-fits : goal.returns-in-None-clause-fits
returns-in-None-clause-fits g c =
    let inv = c.loop-filled.invariant in rw (inv.counted, ← inv.capacity) (omega (arith, inv.free))

pub invariant_of-self-2 : goal.invariant_of-self-2
invariant_of-self-2 g c =
    let inv = c.loop-filled.invariant in
    let all : c.self.inside.capacity - c.args.slot ≡ c.loop-filled.filled = le_antisymm c.loop-filled-test.false c.loop-filled.auto.filled-end in
    record { one = inv.one; none_taken = inv.taken; items_counted = ap (λ n. c.args.slot + n) all ∙ sym inv.counted; rest_free = rw all inv.free }

pub returns-clause-filled : goal.returns-clause-filled
returns-clause-filled g c =
    rw (le_antisymm c.loop-filled-test.false c.loop-filled.auto.filled-end) (sym (c.loop-filled.invariant.counted ∙ ap (λ n. n + c.loop-filled.filled) c.requires.slot))

pub returns-clause-fits : goal.returns-clause-fits
returns-clause-fits g c =
    let inv = c.loop-filled.invariant in rw (inv.counted, ← inv.capacity) (omega (arith, inv.free))
