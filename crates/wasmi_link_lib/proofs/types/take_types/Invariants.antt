use Rattle.std.proofs.Common.{◌≡◌, map, take}
use Rattle.std.specs.List.{fold}
use Rattle.wasmi_module.specs.Views.{func_type_of}
use Rattle.wasmi_link_lib.specs.Linking.{func_type_eq, with_value}
use Rattle.wasmi_link_lib.specs.inner.Tables.{signature_of}
use Rattle.wasmi_link_lib.proofs.types.take_types.Given as goal

abbrev pub invariant-loop-ty : goal.invariant-loop-ty
invariant-loop-ty g l = map signature_of l.types.handed ≡ fold (with_value func_type_eq) (map signature_of l.fn.types.handed) (map func_type_of (take l.ty-index l.taken))
