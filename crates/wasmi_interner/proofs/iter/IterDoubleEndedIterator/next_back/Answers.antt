use Rattle.std.proofs.Common.{◌<◌, ◌-◌, arith}
use Rattle.wasmi_interner.proofs.WithSymbols.{symbols_left, with_symbols_last}
use Rattle.wasmi_interner.proofs.iter.IterDoubleEndedIterator.next_back.Goals as goal

pub returns-clause-steps : goal.returns-clause-steps
returns-clause-steps g c =
    let it = c.self.inside in let some : it.next < it.end = omega (arith, c.self.invariant.0, c.if-self.false) in
    rw (← c.self.view_is, c.from_usize.ensures) (with_symbols_last it.texts.now it.next it.end c.get.result.now some c.self.invariant.1 c.get.ensures)

pub returns-clause-goes : goal.returns-clause-goes
returns-clause-goes g c =
    let it = c.self.inside in let some : it.next < it.end = omega (arith, c.self.invariant.0, c.if-self.false) in
    let before = symbols_left it.texts.now it.next it.end c.self.invariant.0 c.self.invariant.1 in
    let after = symbols_left it.texts.now it.next (it.end - 1) (omega (arith, some)) (omega (arith, c.self.invariant.1)) in
    rw (← c.self.view_is) (record { on = λ _. (tt, tt, omega (arith, before, after, some)); keeps = tt; rests = λ _. tt })
