use Rattle.std.proofs.Common.{◌<◌, ◌^◌, ◌∙◌, ap, arith, length, map, subst}
use Rattle.std.proofs.lemmas.List.{length-map}
use Rattle.wasmi_link_lib.specs.Linking.{func_type_eq, with_value}
use Rattle.wasmi_link_lib.specs.inner.Tables.{signature_of}
use Rattle.wasmi_link_lib.specs.contracts.types.SignaturePartialEq.TheImpl as signature
use Rattle.wasmi_link_lib.proofs.Keys.{key_seen, type_taken}
use Rattle.wasmi_link_lib.proofs.Lists.{with_value_new}
use Rattle.wasmi_link_lib.proofs.Refusals.{was_met}
use Rattle.wasmi_link_lib.proofs.Signatures.{same_signature}
use Rattle.wasmi_link_lib.proofs.types.take_type.Goals as goal

pub returns-clause-ok : goal.returns-clause-ok
returns-clause-ok g c =
    type_taken signature.eq-value.it signature_of same_signature _ _ c.args.types.now c.alloc.new.self c.of.result c.in_ok-alloc.field-0 c.in_ok-alloc.ensures.ok
    ∙ ap (with_value func_type_eq (map signature_of c.args.types.now.handed)) c.of.ensures

pub returns-in_err-alloc-clause-keys : goal.returns-in_err-alloc-clause-keys
returns-in_err-alloc-clause-keys g c = λ is.
    let handed = c.args.types.now.handed in
    let full = c.in_err-alloc.ensures.no_key.0 (was_met c.from_residual.result c.in_err-alloc.field-0.0 c.from_residual.ensures.1 is) in
    let new = with_value_new func_type_eq (map signature_of handed) (signature_of c.of.result) (key_seen signature.eq-value.it signature_of same_signature handed c.of.result ∙ full.0) in
    subst (λ ty. 2 ^ 32 < length (with_value func_type_eq (map signature_of handed) ty)) c.of.ensures (omega (arith, full.1, new, length-map handed signature_of))
