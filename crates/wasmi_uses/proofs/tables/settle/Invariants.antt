use Rattle.std.proofs.Common.{◌≡◌, ◌^◌, ◌-◌, min, sum_by}
use Rattle.wasmi_uses.proofs.tables.settle.Given as goal

abbrev pub invariant-loop-count : goal.invariant-loop-count
invariant-loop-count g l = l.sum ≡ min (sum_by (λ entry. entry.1) l.yielded) (2 ^ 64 - 1)
