use Rattle.std.proofs.Common.{arith, ap, length, length-append, [], ◌∷◌}
use Rattle.wasmi_arena.proofs.Entries.{length-entries_from}
use Rattle.wasmi_dense.proofs.arena.into_iter.IntoIterDoubleEndedIterator.next_back.Goals as goal

pub returns-clause-goes : goal.returns-clause-goes
returns-clause-goes g c =
    let keys = g.Key.ArenaKey.keys in let old = c.self.inside.items.items in let new = c.pop_back.new.self.items in
    let one_less = ap length c.in_ok-item.ensures.items in
    rw (← c.self.view_is) (record {
      on = λ _. (tt, tt, omega (arith, one_less, length-append new (c.in_ok-item.item ∷ []), length-entries_from keys c.self.inside.next old, length-entries_from keys c.self.inside.next new));
      keeps = tt;
      rests = λ _. tt;
    })
