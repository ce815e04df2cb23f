use Rattle.std.proofs.Common.{subst, IfSome}
use Rattle.wasmi_interner.specs.inner.Index.{Carries}
use Rattle.wasmi_interner.proofs.Filing.{carried}
use Rattle.wasmi_interner.proofs.index.Index.grow.Goals as goal

pub returns-in-Ok-Some : goal.returns-in-Ok-Some
returns-in-Ok-Some g c texts is =
    let table = c.args.self.now.slots in let entries = c.args.self.now.rest.entries in
    carried texts table entries is c.in-Ok-Some.slots (subst (λ done. IfSome done (λ slots. Carries table entries slots)) c.in-Ok-Some.field-0-is c.in-Ok-Some.ensures)
