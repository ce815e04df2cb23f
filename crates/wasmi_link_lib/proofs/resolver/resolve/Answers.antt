use Rattle.std.proofs.Common.{◌≡◌, ◌∙◌, List, ap, length, map, sym}
use Rattle.std.proofs.lemmas.List.{length-map}
use Rattle.wasmi_module.specs.Modules.{FuncType}
use Rattle.wasmi_link_lib.specs.Linking.{all_types, func_type_eq, named_of, without_repetitions}
use Rattle.wasmi_link_lib.specs.inner.Tables.{signature_of}
use Rattle.wasmi_link_lib.proofs.resolver.resolve.Goals as goal

pub returns-clause-ok : goal.returns-clause-ok
returns-clause-ok g c =
    let modules = map named_of c.args.modules.now in
    let linker = c.in_ok-linker.linker in
    let has = c.in_ok-linker.ensures.ok in
    let as_many : length c.args.modules.now ≡ length modules = sym (length-map c.args.modules.now named_of) in
    let types : c.len.result ≡ length (without_repetitions func_type_eq (all_types modules)) =
    c.len.ensures.value ∙ sym c.len.ensures.lists ∙ sym (length-map linker.types.handed signature_of) ∙ ap (λ (ts : List FuncType). length ts) has.has_types in
    let names = c.len-2.ensures.value ∙ ap length has.has_names in
    λ i. record { lines = c.in_ok-lines.ensures.ok i; modules = as_many i; types = c.in_ok-types.ensures.ok i; distinct_types = types i; names = names i }
