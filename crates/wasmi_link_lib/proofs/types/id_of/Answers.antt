use Rattle.std.proofs.Common.{◌∙◌, ap, map, sym, is_some, position, true≢false}
use Rattle.wasmi_link_lib.specs.inner.Tables.{key_of, signature_of}
use Rattle.wasmi_link_lib.specs.contracts.types.SignaturePartialEq.TheImpl as signature
use Rattle.wasmi_link_lib.proofs.Keys.{key_seen}
use Rattle.wasmi_link_lib.proofs.Lists.{is_some-map}
use Rattle.wasmi_link_lib.proofs.Signatures.{same_signature}
use Rattle.wasmi_link_lib.proofs.types.id_of.Goals as goal

pub returns : goal.returns
returns g c =
    ap (key_of (map signature_of c.args.types.now.handed)) (sym c.of.ensures)
    ∙ key_seen signature.eq-value.it signature_of same_signature c.args.types.now.handed c.of.result ∙ c.in-Some.ensures.known

pub unreachable-requires : goal.unreachable-requires
unreachable-requires g c =
    let types = map signature_of c.args.types.now.handed in
    let has = ap (λ t. is_some (key_of types t)) c.of.ensures ∙ c.requires in
    let seen = key_seen signature.eq-value.it signature_of same_signature c.args.types.now.handed c.of.result in
    true≢false (sym has ∙ ap is_some seen ∙ sym (is_some-map _ (position (signature.eq-value.it c.of.result) c.args.types.now.handed)) ∙ ap is_some (sym c.key_of.ensures.value ∙ c.in-None.is))
