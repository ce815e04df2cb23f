use borrow.Author.Rules.{rules}
use Rattle.std.proofs.Common.{refl}
use Rattle.wasmi_hashed.proofs.Drains.{set_of-drained}
use Rattle.wasmi_hashed.proofs.set.Set.drain.Goals as goal

pub returns : goal.returns
returns g c = ((refl, λ _. set_of-drained c.self.inside.inner c.args.self.now c.self.view_is), search rules)
