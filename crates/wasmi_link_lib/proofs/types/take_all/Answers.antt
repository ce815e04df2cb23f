use Rattle.std.proofs.Common.{[], ◌<◌, ◌^◌, append-nil, length, map, subst, sym}
use Rattle.std.specs.List.{fold}
use Rattle.wasmi_module.specs.Views.{func_type_of}
use Rattle.wasmi_link_lib.specs.Linking.{all_types, func_type_eq, named_of, with_value}
use Rattle.wasmi_link_lib.specs.inner.Tables.{signature_of}
use Rattle.wasmi_link_lib.proofs.Lists.{more_among, parts-append, take_read}
use Rattle.wasmi_link_lib.proofs.Refusals.{was_met}
use Rattle.wasmi_link_lib.proofs.types.take_all.Goals as goal

pub returns-in_err-take_types-clause-keys : goal.returns-in_err-take_types-clause-keys
returns-in_err-take_types-clause-keys g c = λ is.
    let modules = c.args.modules.now in
    let i = c.loop-named.named-index in
    let x = c.named-item.result in
    let old = map signature_of c.loop-named.types.handed in
    let taken = fold (with_value func_type_eq) old in
    let more = subst (λ ts. 2 ^ 32 < length (taken (map func_type_of ts))) c.as_slice.ensures.value (c.in_err-take_types.ensures.keys (was_met c.from_residual.result c.in_err-take_types.field-0.0 c.from_residual.ensures.1 is)) in
    more_among func_type_eq (λ ms. all_types (map named_of ms)) (parts-append (λ m. m.body.types) named_of) (2 ^ 32) [] old modules i x (take_read modules i x c.loop-named-test.true c.named-item.is)
    c.loop-named.invariant (subst (λ ts. 2 ^ 32 < length (taken ts)) (sym (append-nil (named_of x).body.types)) more)
