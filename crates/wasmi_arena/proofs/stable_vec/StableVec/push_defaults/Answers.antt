use Rattle.std.proofs.Common.{arith, ◌+◌, ◌∙◌}
use Rattle.std.proofs.Math.Nat.{min-eq_left, not-le_of_lt}
use Rattle.std.proofs.lemmas.Bool.{false≢true}
use Rattle.wasmi_arena.proofs.Doubling.{fewest-le}
use Rattle.wasmi_arena.proofs.Apart.{len_is, open_is}
use Rattle.wasmi_arena.proofs.stable_vec.StableVec.push_defaults.Goals as goal

pub open_apart-requires-clause-exist : goal.open_apart-requires-clause-exist
open_apart-requires-clause-exist g c =
    let small = c.requires in let counted = len_is c.self.invariant _ c.self.view_is in
    rw c.buckets_for-needed.ensures (fewest-le (c.self.inside.len + c.args.amount) (omega arith))

pub returns-then-amount-room-clause-ok : goal.returns-then-amount-room-clause-ok
returns-then-amount-room-clause-ok g c =
    let filled = c.fill_last-filled.ensures in let fits = rw c.room.ensures at c.if-amount-room.true in
    (filled.items.0, filled.items.1, filled.items.2 ∙ (filled.filled ∙ min-eq_left fits), filled.items.3)

pub returns-in_err-open_apart-clause-with_room : goal.returns-in_err-open_apart-clause-with_room
returns-in_err-open_apart-clause-with_room g c = λ fits. absurd (not-le_of_lt c.if-amount-room.false (rw c.room.ensures fits))

pub returns-in_err-open_apart-clause-without_size : goal.returns-in_err-open_apart-clause-without_size
returns-in_err-open_apart-clause-without_size g c = λ none infallible. absurd (false≢true (c.in_err-open_apart.ensures.without_size none (infallible _)))

pub fill_from-requires : goal.fill_from-requires
fill_from-requires g c =
    let apart = rw (open_is c.self.invariant _ c.self.view_is, c.buckets_for-needed.ensures, len_is c.self.invariant _ c.self.view_is) at c.in_ok-open_apart.ensures.«open» in (assumption, (c.requires, apart))

pub overflow_add-self-inside : goal.overflow_add-self-inside
overflow_add-self-inside g c = let small = c.requires in let counted = len_is c.self.invariant _ c.self.view_is in record { fits = omega arith }

pub buckets_for-needed-requires : goal.buckets_for-needed-requires
buckets_for-needed-requires g c = rw (c.self.invariant.items_counted, c.self.view_is) c.requires

pub open_apart-requires-clause-in_table : goal.open_apart-requires-clause-in_table
open_apart-requires-clause-in_table g c = c.new-apart.ensures.long
