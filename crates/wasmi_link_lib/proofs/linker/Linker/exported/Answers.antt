use Rattle.std.proofs.Common.{Err, ◌<◌, length, arith, ◌∙◌, ap, map, option_map}
use Rattle.wasmi_module.specs.Views.{module_of}
use Rattle.wasmi_link_lib.specs.Linking.{named_of, export_named}
use Rattle.wasmi_link_lib.specs.inner.Tables.{imported_view, keyed, signature_of}
use Rattle.wasmi_link_lib.proofs.Asked.{imported_is, imported_there, place_given, exported_at, exported_none}
use Rattle.wasmi_link_lib.proofs.linker.Linker.exported.Goals as goal

pub item-requires-clause-imported : goal.item-requires-clause-imported
item-requires-clause-imported g c =
    imported_is imported_view c.args.self.now.imported.items (map named_of c.args.modules.now) c.args.id c.in-Ok.imported.now (module_of c.args.body.now) c.requires.linker.has_imported c.in-Ok.ensures.item c.requires.there

pub returns-in-Ok : goal.returns-in-Ok
returns-in-Ok g c = λ name is.
    let m = module_of c.args.body.now in
    let modules = map named_of c.args.modules.now in
    let has = c.requires.linker.has_exports c.args.id c.args.symbol name is in
    c.item.ensures
    ∙ ap (option_map (keyed (map signature_of c.args.self.now.types.handed))) (exported_at m c.in-Some.place.now (export_named m name)
    (c.in-Some.ensures ∙ place_given c.args.self.now.exports.entries modules c.args.id c.args.symbol name m has c.requires.there))

pub returns-in-None : goal.returns-in-None
returns-in-None g c = λ name is.
    let m = module_of c.args.body.now in
    let modules = map named_of c.args.modules.now in
    let has = c.requires.linker.has_exports c.args.id c.args.symbol name is in
    ap (option_map (keyed (map signature_of c.args.self.now.types.handed))) (exported_none m (export_named m name)
    (c.in-None.ensures ∙ place_given c.args.self.now.exports.entries modules c.args.id c.args.symbol name m has c.requires.there))

pub unreachable-requires : goal.unreachable-requires
unreachable-requires g c =
    let there : c.args.id < length c.args.self.now.imported.items =
    imported_there imported_view c.args.self.now.imported.items (map named_of c.args.modules.now) c.args.id (module_of c.args.body.now) c.requires.linker.has_imported c.requires.there in
    let past = c.in-Err.ensures.out_of_bounds.0 (ap Err c.in-Err.ensures.errors) in
    omega (arith, there, past)
