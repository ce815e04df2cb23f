use Rattle.std.proofs.Common.{◌^◌, map}
use Rattle.std.proofs.lemmas.List.{map-append}
use Rattle.wasmi_module.specs.Views.{func_type_of}
use Rattle.wasmi_link_lib.specs.Linking.{func_type_eq}
use Rattle.wasmi_link_lib.specs.inner.Tables.{signature_of}
use Rattle.wasmi_link_lib.proofs.Lists.{more_among, take_read}
use Rattle.wasmi_link_lib.proofs.Refusals.{was_met}
use Rattle.wasmi_link_lib.proofs.types.take_types.Goals as goal

pub returns-in_err-take_type-clause-keys : goal.returns-in_err-take_type-clause-keys
returns-in_err-take_type-clause-keys g c = λ is.
    let taken = c.args.taken.now in
    let i = c.loop-ty.ty-index in
    more_among func_type_eq (map func_type_of) (map-append func_type_of) (2 ^ 32) (map signature_of c.args.types.now.handed) (map signature_of c.loop-ty.types.handed) taken i c.ty-item.result (take_read taken i c.ty-item.result c.loop-ty-test.true c.ty-item.is)
    c.loop-ty.invariant (c.in_err-take_type.ensures.keys (was_met c.from_residual.result c.in_err-take_type.field-0.0 c.from_residual.ensures.1 is))
