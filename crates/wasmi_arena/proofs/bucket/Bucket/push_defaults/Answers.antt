use Rattle.std.proofs.Common.{rules, arith, [], ◌∷◌, length-append}
use Rattle.wasmi_arena.proofs.Growth.{many_next}
use Rattle.wasmi_arena.proofs.bucket.Bucket.push_defaults.Goals as goal

pub loop-filled-preserved : goal.loop-filled-preserved
loop-filled-preserved g c =
    let inv = c.loop-filled.invariant in let below = c.loop-filled-test.true in
    record {
      one = search rules;
      pointer = inv.pointer;
      capacity = inv.capacity;
      taken = search rules;
      items = rw c.write.ensures (many_next g.T.Default.is_default _ inv.items c.default.ensures);
      counted = rw c.write.ensures (omega (arith, inv.counted, length-append c.loop-filled.self-inside.slots.items (c.default.result ∷ [])));
      free = rw c.write.ensures (omega (arith, inv.free, c.requires.free));
    }
