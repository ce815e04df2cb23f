use Rattle.std.proofs.Common.{arith, length}
use Rattle.wasmi_interner.proofs.BinaryDigits.{digits_half}
use Rattle.wasmi_interner.proofs.sought.Sought.symbol_if_first.Goals as goal

pub returns-then-is_text_of-clause-few_steps : goal.returns-then-is_text_of-clause-few_steps
returns-then-is_text_of-clause-few_steps g c =
    let n = length c.args.self.now.texts.now in
    omega (arith, c.is_text_of.ensures.counted, digits_half 0 n (omega (arith, c.if-len-eq0.false, c.len.ensures)) (omega (arith, c.len.type_inv, c.len.ensures)) (omega arith))

pub returns-else-is_text_of-clause-few_steps : goal.returns-else-is_text_of-clause-few_steps
returns-else-is_text_of-clause-few_steps g c =
    let n = length c.args.self.now.texts.now in
    omega (arith, c.is_text_of.ensures.counted, digits_half 0 n (omega (arith, c.if-len-eq0.false, c.len.ensures)) (omega (arith, c.len.type_inv, c.len.ensures)) (omega arith))
