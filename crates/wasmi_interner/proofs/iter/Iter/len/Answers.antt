use Rattle.std.proofs.Common.{arith}
use Rattle.wasmi_interner.proofs.WithSymbols.{symbols_left}
use Rattle.wasmi_interner.proofs.iter.Iter.len.Goals as goal

pub returns : goal.returns
returns g c =
    let it = c.self.inside in
    rw (← c.self.view_is) (omega (arith, symbols_left it.texts.now it.next it.end c.self.invariant.0 c.self.invariant.1))
