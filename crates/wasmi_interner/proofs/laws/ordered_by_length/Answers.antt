use Rattle.wasmi_interner.specs.LenOrder.{text_of}
use Rattle.wasmi_interner.proofs.LengthOrder.{len_cmp-Equal}
use Rattle.wasmi_interner.proofs.laws.ordered_by_length.Goals as goal

pub returns-clause-equal : goal.returns-clause-equal
returns-clause-equal c = rw c.cmp.ensures (len_cmp-Equal (text_of c.args.a.now) (text_of c.args.b.now))
