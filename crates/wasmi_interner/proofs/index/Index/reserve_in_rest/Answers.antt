use Rattle.std.proofs.Common.{arith}
use Rattle.wasmi_interner.proofs.Filing.{rest_few}
use Rattle.wasmi_interner.proofs.index.Index.reserve_in_rest.Goals as goal

pub returns-clause-ready : goal.returns-clause-ready
returns-clause-ready g c =
    let few = rest_few c.args.sought.now.texts.now c.args.self.now.rest.entries c.requires.indexed.rest in
    let belongs = c.requires.belongs in
    rw c.reserve.ensures.entries (belongs.0, c.in_ok-reserve.ensures.ok, omega (arith, few, c.requires.few), belongs.1, belongs.2, belongs.3)
