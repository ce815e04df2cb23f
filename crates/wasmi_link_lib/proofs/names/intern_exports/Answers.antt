use Rattle.std.proofs.Common.{◌^◌, bytes_eq, map}
use Rattle.std.proofs.lemmas.List.{take_more}
use Rattle.wasmi_module.specs.Views.{export_of}
use Rattle.wasmi_link_lib.proofs.Lists.{export_names_step, mapped-append, more_among}
use Rattle.wasmi_link_lib.proofs.Refusals.{was_met}
use Rattle.wasmi_link_lib.proofs.names.intern_exports.Goals as goal

pub loop-export-preserved : goal.loop-export-preserved
loop-export-preserved g c =
    export_names_step export_of c.args.names.now c.loop-export.names c.intern.new.names c.args.exports.now c.loop-export.export-index _ c.loop-export-test.true
    c.loop-export.invariant c.in_ok-intern.ensures.ok

pub returns-in_err-intern-clause-keys : goal.returns-in_err-intern-clause-keys
returns-in_err-intern-clause-keys g c = λ is.
    let exports = c.args.exports.now in
    let i = c.loop-export.export-index in
    more_among bytes_eq (λ es. map (λ e. e.name) (map export_of es)) (mapped-append (λ e. e.name) export_of) (2 ^ 32) c.args.names.now c.loop-export.names exports i _ (take_more exports i _ c.loop-export-test.true)
    c.loop-export.invariant (c.in_err-intern.ensures.keys (was_met c.from_residual.result c.in_err-intern.field-0.0 c.from_residual.ensures.1 is))
