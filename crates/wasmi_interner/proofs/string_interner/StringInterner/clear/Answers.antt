use Rattle.std.proofs.Common.{arith}
use Rattle.wasmi_interner.proofs.string_interner.StringInterner.clear.Goals as goal

pub invariant_of-self : goal.invariant_of-self
invariant_of-self g c = rw c.clear.ensures (c.clear-2.ensures, omega arith)
