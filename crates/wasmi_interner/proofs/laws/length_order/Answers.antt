use Rattle.wasmi_interner.proofs.LengthOrder.{len_cmp-Equal}
use Rattle.wasmi_interner.specs.LenOrderLaws.{len_cmp_total}
use Rattle.wasmi_interner.proofs.laws.length_order.Goals as goal

pub returns-clause-total : goal.returns-clause-total
returns-clause-total c = len_cmp_total

pub returns-clause-equal : goal.returns-clause-equal
returns-clause-equal c = len_cmp-Equal
