use Rattle.std.proofs.Common.{◌<◌, ◌^◌, arith}
use Rattle.std.proofs.Math.Pow.{pow-lt}
use Rattle.std.proofs.lemmas.Nat.{pow-add}
use Rattle.wasmi_interner.proofs.rest.width.Width.next.Goals as goal

pub returns-then-self-lt-GREATEST-clause-next : goal.returns-then-self-lt-GREATEST-clause-next
returns-then-self-lt-GREATEST-clause-next c =
    let power = c.self.inside.power in
    let less : 2 ^ power < 2 ^ 20 = pow-lt c.if-self-lt-GREATEST.true in
    (omega (arith, pow-add 2 power 1, c.self.view_is), omega (arith, less, c.self.view_is))
