use Rattle.std.proofs.Common.{arith, ap, length, length-append, [], ◌∷◌}
use Rattle.std.specs.Slice.Iter.{iter_mut_rest}
use Rattle.wasmi_arena.proofs.Entries.{length-entries_from}
use Rattle.wasmi_dense.proofs.arena.iter_mut.IterMutDoubleEndedIterator.next_back.Goals as goal

pub returns-clause-goes : goal.returns-clause-goes
returns-clause-goes g c =
    let keys = g.Key.ArenaKey.keys in let old = iter_mut_rest c.args.self.now.items in let new = iter_mut_rest c.next_back.new.self in let item = c.in_ok-item.item.now in
    let one_less = ap length c.in_ok-item.ensures.steps in let from = c.args.self.now.next in
    record {
      on = λ _. (tt, tt, omega (arith, one_less, length-append new (item ∷ []), length-entries_from keys from old, length-entries_from keys from new));
      keeps = tt;
      rests = λ _. tt;
    }
