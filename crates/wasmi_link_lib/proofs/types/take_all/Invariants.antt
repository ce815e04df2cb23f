use Rattle.std.proofs.Common.{◌≡◌, map, take}
use Rattle.wasmi_link_lib.specs.Linking.{named_of, all_types, func_type_eq, without_repetitions}
use Rattle.wasmi_link_lib.specs.inner.Tables.{signature_of}
use Rattle.wasmi_link_lib.proofs.types.take_all.Given as goal

abbrev pub invariant-loop-named : goal.invariant-loop-named
invariant-loop-named g l = map signature_of l.types.handed ≡ without_repetitions func_type_eq (all_types (map named_of (take l.named-index l.modules)))
