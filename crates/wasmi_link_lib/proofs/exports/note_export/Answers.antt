use Rattle.std.proofs.Common.{Some, ap, sym}
use Rattle.wasmi_module.specs.Views.{export_of}
use Rattle.wasmi_link_lib.specs.inner.Tables.{place_in, place_of}
use Rattle.wasmi_link_lib.proofs.Symbols.{notes_tried, place_changes, place_tried}
use Rattle.wasmi_link_lib.proofs.exports.note_export.Goals as goal

pub returns-in_ok-try_insert-clause-own : goal.returns-in_ok-try_insert-clause-own
returns-in_ok-try_insert-clause-own g c =
    let old = c.args.exports.now.entries in
    let new = c.try_insert.new.self.entries in
    let place = place_of (export_of c.args.export.now) in
    notes_tried c.args.names.now c.args.export.now.name.now c.in-Some.symbol (sym c.in-Some.ensures.symbol) (place_in old c.args.id) (place_in new c.args.id) place
    (λ there q. ap (λ m. place_in m.entries c.args.id q) (c.in_ok-try_insert.ensures.unchanged there))
    (λ none. place_changes old new c.args.id c.in-Some.symbol (Some place) (c.in_ok-try_insert.ensures.changes none))

pub returns-in_ok-try_insert-clause-others : goal.returns-in_ok-try_insert-clause-others
returns-in_ok-try_insert-clause-others g c =
    let place = place_of (export_of c.args.export.now) in
    place_tried c.args.exports.now.entries c.try_insert.new.self.entries c.args.id c.in-Some.symbol (Some place)
    (λ there. ap (λ m. m.entries) (c.in_ok-try_insert.ensures.unchanged there)) c.in_ok-try_insert.ensures.changes
