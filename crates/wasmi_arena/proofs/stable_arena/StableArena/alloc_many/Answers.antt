use Rattle.std.proofs.Common.{arith, length, sym, true≢false}
use Rattle.wasmi_arena.specs.Geometry.{fewest}
use Rattle.wasmi_arena.proofs.Doubling.{start_mono, fewest-le}
use Rattle.wasmi_arena.proofs.stable_arena.StableArena.alloc_many.Goals as goal

pub returns-then-amount-len-clause-with_room : goal.returns-then-amount-len-clause-with_room
returns-then-amount-len-clause-with_room g c = λ has_key within.
    let n = length c.args.self.now in let keyed = c.len-len.ensures.keyed in let over = c.if-amount-len.true in
    absurd (omega (arith, c.len-len.ensures.value, start_mono (fewest n) 27 (fewest-le n (omega arith))))

pub returns-in_err-push_defaults-clause-without_size : goal.returns-in_err-push_defaults-clause-without_size
returns-in_err-push_defaults-clause-without_size g c = λ has_key within no_size safe.
    absurd (true≢false (sym (c.in_err-push_defaults.ensures.without_size no_size safe)))

pub returns-then-amount-len-clause-no_key : goal.returns-then-amount-len-clause-no_key
returns-then-amount-len-clause-no_key g c = grind arith

pub returns-then-amount-len-clause-without_size : goal.returns-then-amount-len-clause-without_size
returns-then-amount-len-clause-without_size g c = grind arith

pub returns-in_err-start : goal.returns-in_err-start
returns-in_err-start g c = grind arith

pub returns-in_err-end : goal.returns-in_err-end
returns-in_err-end g c = grind arith

pub returns-in_err-push_defaults-clause-no_key : goal.returns-in_err-push_defaults-clause-no_key
returns-in_err-push_defaults-clause-no_key g c = grind arith

pub returns-in_err-push_defaults-clause-memory : goal.returns-in_err-push_defaults-clause-memory
returns-in_err-push_defaults-clause-memory g c = grind arith

pub returns-in_err-push_defaults-clause-with_room : goal.returns-in_err-push_defaults-clause-with_room
returns-in_err-push_defaults-clause-with_room g c = grind arith

pub returns : goal.returns
returns g c = grind arith
