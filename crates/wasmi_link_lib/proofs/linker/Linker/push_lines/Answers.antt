use Rattle.std.proofs.Common.{ap, arith, length, map, subst, sym, Some}
use Rattle.std.specs.List.{AllZip}
use Rattle.std.proofs.lemmas.List.{length-map}
use Rattle.std.proofs.lemmas.Slice.Zip.{AllZip-long}
use Rattle.wasmi_module.specs.Valid.{IsImportWithin, counts_of}
use Rattle.wasmi_module.specs.Views.{import_of, module_of}
use Rattle.wasmi_link_lib.specs.Lines.{line_of}
use Rattle.wasmi_link_lib.specs.Linking.{line_for, named_of}
use Rattle.wasmi_link_lib.specs.inner.Tables.{AreSymbolsOf}
use Rattle.wasmi_link_lib.proofs.Lists.{All_along, All_at, got, got_at, joined_step, slice_get_map}
use Rattle.wasmi_link_lib.proofs.Zips.{AllZip-read}
use Rattle.wasmi_link_lib.proofs.linker.Linker.push_lines.Goals as goal

pub bounds-symbols-place : goal.bounds-symbols-place
bounds-symbols-place g c =
    let imports = c.args.asker.now.module.imports.items in
    let long = AllZip-long (AreSymbolsOf c.args.self.now.names) (map import_of imports) c.args.symbols.now c.requires.symbols in
    omega (arith, c.loop-place-test.true, long, length-map imports import_of, ap length c.deref-import-items.ensures.value)

pub line-line-requires-clause-symbols : goal.line-line-requires-clause-symbols
line-line-requires-clause-symbols g c =
    let items = c.deref-import-items.result.now in
    let imports = c.args.asker.now.module.imports.items in
    let place = c.loop-place.place in
    let symbols = c.args.symbols.now in
    let long = AllZip-long (AreSymbolsOf c.args.self.now.names) (map import_of imports) symbols c.requires.symbols in
    AllZip-read (AreSymbolsOf c.args.self.now.names) (map import_of items) symbols place _ c.index-symbols-place.result
    (subst (λ is. AllZip (AreSymbolsOf c.args.self.now.names) (map import_of is) symbols) (sym c.deref-import-items.ensures.value) c.requires.symbols)
    (slice_get_map import_of items place (Some _) (got_at items place _ c.loop-place-test.true))
    (got symbols place c.index-symbols-place.result (omega (arith, c.loop-place-test.true, long, length-map imports import_of, ap length c.deref-import-items.ensures.value)) c.index-symbols-place.is)

pub line-line-requires-clause-within : goal.line-line-requires-clause-within
line-line-requires-clause-within g c =
    let items = c.deref-import-items.result.now in
    All_at (λ i. IsImportWithin (counts_of (module_of c.args.asker.now.module)) i.item) import_of items c.loop-place.place _ c.loop-place-test.true
    (All_along (λ i. IsImportWithin (counts_of (module_of c.args.asker.now.module)) i.item) import_of c.args.asker.now.module.imports.items items c.deref-import-items.ensures.value c.requires.asker_valid.imports)

pub loop-place-preserved : goal.loop-place-preserved
loop-place-preserved g c =
    joined_step line_of (line_for (map named_of c.args.modules.now) (named_of c.args.asker.now)) import_of (map line_of c.args.lines.now.items) c.loop-place.lines.items c.push.new.self.items c.line-line.result
    c.deref-import-items.result.now c.loop-place.place _ c.loop-place-test.true c.loop-place.invariant c.in_ok-push.ensures.items c.line-line.ensures
