use Rattle.std.proofs.Common.{arith, ◌+◌, ◌-◌, ◌/◌, ◌≡◌, suc, ap, ℕ, ◌<◌}
use Rattle.wasmi_arena.specs.Geometry.{start}
use Rattle.wasmi_arena.proofs.Doubling.{start-last, start-size, place-last, below_of_start}
use Rattle.wasmi_arena.proofs.geometry.place_in_last.Goals as goal

-- the buckets before the last have half of what is past 32 slots
start-half : (b slots n : ℕ) → slots ≡ start b → n < slots → (slots - 32) / 2 ≡ start (b - 1)
start-half b slots n is free =
    let some = below_of_start 0 b (n + 1) (omega arith) (omega arith) in
    let last : b ≡ suc (b - 1) = omega arith in
    let end : start b ≡ start (suc (b - 1)) = ap start last in
    omega (arith, start-size (b - 1))

pub overflow_sub-result-3 : goal.overflow_sub-result-3
overflow_sub-result-3 c =
    rw (start-half c.args.open_buckets c.args.slots c.args.len c.requires.slots c.requires.free) (start-last c.args.len c.args.open_buckets (omega arith) c.requires.open (rw (← c.requires.slots) c.requires.free))

pub returns-clause-place : goal.returns-clause-place
returns-clause-place c =
    rw (start-half c.args.open_buckets c.args.slots c.args.len c.requires.slots c.requires.free) (place-last c.args.len c.args.open_buckets (omega arith) c.requires.open (rw (← c.requires.slots) c.requires.free))
