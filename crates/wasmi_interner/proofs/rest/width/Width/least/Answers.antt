use Rattle.std.proofs.Common.{arith, refl}
use Rattle.wasmi_interner.proofs.rest.width.Width.least.Goals as goal

pub returns : goal.returns
returns c = (4, (omega arith, omega arith), refl)
