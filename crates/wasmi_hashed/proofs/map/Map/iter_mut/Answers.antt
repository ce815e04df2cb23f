use borrow.Author.Rules.{rules}
use Rattle.std.proofs.Common.{refl}
use Rattle.wasmi_map_specs.proofs.Values.{keeps_keys}
use Rattle.wasmi_hashed.proofs.Values.{map_of-with_values}
use Rattle.wasmi_hashed.proofs.map.Map.iter_mut.Goals as goal

pub returns : goal.returns
returns g c = let keeps = keeps_keys c.args.self.now.entries in ((refl, map_of-with_values c.self.inside.inner c.args.self.now c.self.view_is), search rules)
