use Rattle.wasmi_interner.proofs.BinaryDigits.{digits_above, digits_least}
use Rattle.wasmi_interner.proofs.laws.binary_digits.Goals as goal

pub returns-clause-above : goal.returns-clause-above
returns-clause-above c = digits_above

pub returns-clause-least : goal.returns-clause-least
returns-clause-least c = digits_least
