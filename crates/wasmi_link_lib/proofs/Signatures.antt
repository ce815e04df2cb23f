-- Types as they are lent are equal where they are equal as lists.
-- for src/types.rt
use denote.Enum.Bare.{sameb, same_true, true_same}
use Rattle.std.proofs.Common.{◌≡◌, ◌&&◌, rules}
use Rattle.std.specs.Bool.{one_answer}
use Rattle.std.specs.Cmp.Lexicographic.{pointwise}
use Rattle.wasmi_module.specs.contracts.module.ValType.{the_type}
use Rattle.wasmi_module.specs.contracts.module.ValTypePartialEq.TheImpl as val
use Rattle.wasmi_module.specs.declared.module.ValType.{ValType}
use Rattle.wasmi_link_lib.specs.contracts.types.SignaturePartialEq.TheImpl as signature
use Rattle.wasmi_link_lib.specs.declared.types.Signature.{Signature}
use Rattle.wasmi_link_lib.specs.Linking.{val_type_eq, func_type_eq}
use Rattle.wasmi_link_lib.specs.inner.Tables.{signature_of}
use Rattle.wasmi_link_lib.proofs.Matches.{val_type_eq-Decides}

same_val_type : (a b : ValType) → val.eq-value.it a b ≡ val_type_eq a b
same_val_type a b = one_answer (sameb the_type a b) (val_type_eq a b) (same_true the_type (search rules) a b, true_same the_type a b) (val_type_eq-Decides a b)

pub same_signature : (a b : Signature) → signature.eq-value.it a b ≡ func_type_eq (signature_of a) (signature_of b)
same_signature a b = λ i. pointwise (λ x y. same_val_type x y i) a.params.now b.params.now && pointwise (λ x y. same_val_type x y i) a.results.now b.results.now
