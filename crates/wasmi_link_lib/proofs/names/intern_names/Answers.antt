use Rattle.std.proofs.Common.{◌<◌, ◌^◌, ◌++◌, arith, bytes_eq, flat_map, length, map, subst, sym}
use Rattle.std.specs.List.{AllZip, fold}
use Rattle.std.proofs.lemmas.List.Sums.{fold-append}
use Rattle.wasmi_module.specs.Views.{export_of, import_of}
use Rattle.wasmi_link_lib.specs.Linking.{import_names, named_of, with_value}
use Rattle.wasmi_link_lib.specs.inner.Tables.{AreSymbolsOf}
use Rattle.wasmi_link_lib.proofs.Lists.{fold_grows}
use Rattle.wasmi_link_lib.proofs.Refusals.{was_met}
use Rattle.wasmi_link_lib.proofs.Zips.{all_symbols_stay}
use Rattle.wasmi_link_lib.proofs.names.intern_names.Goals as goal

pub returns-clause-symbols : goal.returns-clause-symbols
returns-clause-symbols g c =
    let old = c.intern_imports.new.names in
    all_symbols_stay old c.intern_exports.new.names (map (λ e. e.name) (map export_of c.as_slice-2.result.now)) c.in_ok-intern_exports.ensures.ok (named_of c.args.named.now) c.in_ok-symbols.symbols.items
    (subst (λ is. AllZip (AreSymbolsOf old) (map import_of is) c.in_ok-symbols.symbols.items) c.as_slice.ensures.value c.in_ok-symbols.ensures.symbols)

pub returns-in_err-intern-clause-keys : goal.returns-in_err-intern-clause-keys
returns-in_err-intern-clause-keys g c = λ is.
    let m = named_of c.args.named.now in
    let more = c.in_err-intern.ensures.keys (was_met c.from_residual.result c.in_err-intern.field-0.0 c.from_residual.ensures.1 is) in
    omega (arith, more, fold_grows bytes_eq (with_value bytes_eq c.args.names.now m.name) (flat_map import_names m.body.imports ++ map (λ e. e.name) m.body.exports))

pub returns-in_err-symbols-clause-keys : goal.returns-in_err-symbols-clause-keys
returns-in_err-symbols-clause-keys g c = λ is.
    let m = named_of c.args.named.now in
    let taken = fold (with_value bytes_eq) in
    let first = with_value bytes_eq c.args.names.now m.name in
    let imports = flat_map import_names m.body.imports in
    let exports = map (λ e. e.name) m.body.exports in
    let more : 2 ^ 32 < length (taken first imports) =
    subst (λ ns. 2 ^ 32 < length (taken ns imports)) c.in_ok-intern.ensures.ok
    (subst (λ is. 2 ^ 32 < length (taken c.intern.new.names (flat_map import_names (map import_of is)))) c.as_slice.ensures.value
    (c.in_err-symbols.ensures.keys (was_met c.from_residual-in_err-symbols.result c.in_err-symbols.field-0.0 c.from_residual-in_err-symbols.ensures.1 is))) in
    subst (λ l. 2 ^ 32 < length l) (sym (fold-append (with_value bytes_eq) first imports exports)) (omega (arith, more, fold_grows bytes_eq (taken first imports) exports))
