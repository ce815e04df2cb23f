use Rattle.std.proofs.Common.{◌≡◌, ◌++◌, codes, take, string_bytes}
use Rattle.std.specs.List.{flat_map}
use Rattle.wasmi_link_lib.specs.Report.{val_type_text}
use Rattle.wasmi_link_lib.proofs.text.types.write_tuple.Given as goal

abbrev pub invariant-loop-ty : goal.invariant-loop-ty
invariant-loop-ty g l =
    string_bytes l.text ≡ string_bytes l.initial.text ++ flat_map (λ t. codes " " ++ val_type_text t) (take l.ty-index l.others)
