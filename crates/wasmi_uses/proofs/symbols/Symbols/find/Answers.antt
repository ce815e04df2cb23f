use Rattle.std.proofs.Common.{◌≡◌, Some, slice_get, sym, rules}
use Rattle.wasmi_uses.proofs.NameLemmas.{name_at_position, name_nowhere}
use Rattle.wasmi_uses.proofs.symbols.Symbols.find.Goals as goal

pub returns-in-Some-clause-found : goal.returns-in-Some-clause-found
returns-in-Some-clause-found c =
    let there = name_at_position c.args.name.now c.items.result.now c.in-Some.position (sym c.in-Some.ensures.first) in
    let read : slice_get c.args.self.now c.in-Some.position ≡ Some c.args.name.now = rw (← c.self.view_is, ← c.items.ensures) there in
    search rules

pub returns-in-None-clause-absent : goal.returns-in-None-clause-absent
returns-in-None-clause-absent c =
    rw (← c.self.view_is, ← c.items.ensures) (name_nowhere c.args.name.now c.items.result.now (sym c.in-None.ensures.first))
