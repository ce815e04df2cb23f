use Rattle.std.proofs.Common.{sym, Some}
use Rattle.wasmi_dense.specs.Components.{component_at}
use Rattle.wasmi_link_lib.proofs.Symbols.{component_changes, notes_new, nothing}
use Rattle.wasmi_link_lib.proofs.firsts.note_first.Goals as goal

pub returns-in_ok-set-clause-ok : goal.returns-in_ok-set-clause-ok
returns-in_ok-set-clause-ok g c = notes_new c.args.names.now c.args.name.now c.in-Some.symbol (sym c.in-Some.ensures.symbol) (component_at c.args.firsts.now) (component_at c.set.new.self) c.args.id
    (nothing _ c.has-there.result c.has-there.ensures c.if-is_first.true)
    (component_changes c.args.firsts.now c.set.new.self c.in-Some.symbol (Some c.args.id) c.in_ok-set.ensures.changes)
