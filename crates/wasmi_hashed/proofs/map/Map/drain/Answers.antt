use borrow.Author.Rules.{rules}
use Rattle.std.proofs.Common.{refl}
use Rattle.wasmi_hashed.proofs.Drains.{map_of-drained}
use Rattle.wasmi_hashed.proofs.map.Map.drain.Goals as goal

pub returns : goal.returns
returns g c = ((refl, λ _. map_of-drained c.self.inside.inner c.args.self.now c.self.view_is), search rules)
