use Rattle.std.proofs.Common.{arith}
use Rattle.wasmi_interner.proofs.string_interner.StringInterner.new.Goals as goal

pub invariant_of-result : goal.invariant_of-result
invariant_of-result g c = rw c.new.ensures (c.new-2.ensures, omega arith)
