use Rattle.std.proofs.Common.{◌+◌, ◌^◌, map, take}
use Rattle.std.proofs.lemmas.List.{map_more}
use Rattle.wasmi_module.specs.Views.{import_of}
use Rattle.wasmi_link_lib.proofs.Lists.{asked_among, field_among, names_step}
use Rattle.wasmi_link_lib.proofs.Refusals.{was_met}
use Rattle.wasmi_link_lib.proofs.Zips.{symbols_step}
use Rattle.wasmi_link_lib.proofs.names.intern_imports.Goals as goal

pub loop-import-preserved : goal.loop-import-preserved
loop-import-preserved g c =
    let i = c.loop-import.import-index in
    let imports = c.args.imports.now in
    record {
      taken = names_step import_of c.args.names.now c.loop-import.names c.intern.new.names c.intern-in-loop-import.new.names imports i _ c.loop-import-test.true
          c.loop-import.invariant.taken c.in_ok-asked.ensures.ok c.in_ok-field.ensures.ok;
      symbols = symbols_step c.loop-import.names c.intern.new.names c.intern-in-loop-import.new.names (map import_of (take i imports)) (map import_of (take (i + 1) imports)) c.loop-import.symbols.items c.push.new.self.items _ _
          c.loop-import.invariant.symbols (map_more import_of imports i _ c.loop-import-test.true) c.in_ok-push.ensures.items
          c.in_ok-asked.ensures.ok c.in_ok-field.ensures.ok c.in_ok-asked.ensures.symbol c.in_ok-field.ensures.symbol;
    }

pub returns-in_err-asked-clause-keys : goal.returns-in_err-asked-clause-keys
returns-in_err-asked-clause-keys g c = λ is.
    asked_among import_of (2 ^ 32) c.args.names.now c.loop-import.names c.args.imports.now c.loop-import.import-index _ c.loop-import-test.true c.loop-import.invariant.taken
    (c.in_err-asked.ensures.keys (was_met c.from_residual-in_err-asked.result c.in_err-asked.field-0.0 c.from_residual-in_err-asked.ensures.1 is))

pub returns-in_err-field-clause-keys : goal.returns-in_err-field-clause-keys
returns-in_err-field-clause-keys g c = λ is.
    field_among import_of (2 ^ 32) c.args.names.now c.loop-import.names c.intern.new.names c.args.imports.now c.loop-import.import-index _ c.loop-import-test.true c.loop-import.invariant.taken c.in_ok-asked.ensures.ok
    (c.in_err-field.ensures.keys (was_met c.from_residual-in_err-field.result c.in_err-field.field-0.0 c.from_residual-in_err-field.ensures.1 is))
