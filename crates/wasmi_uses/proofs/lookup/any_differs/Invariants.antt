use Rattle.std.proofs.Common.{◌≡◌, length, take}
use Rattle.wasmi_uses.proofs.lookup.any_differs.Given as goal

abbrev pub invariant-loop-key : goal.invariant-loop-key
invariant-loop-key g l = take (length l.yielded) l.other ≡ take (length l.yielded) l.one
