use Rattle.std.proofs.lemmas.Option.{IfSome_then}
use Rattle.wasmi_ordered.proofs.map.Map.pop_last.Goals as goal

pub returns-clause-changes : goal.returns-clause-changes
returns-clause-changes g c = rw (← c.self.view_is) (IfSome_then c.pop_last.result c.pop_last.ensures.updates (λ pair changes. changes.0))
