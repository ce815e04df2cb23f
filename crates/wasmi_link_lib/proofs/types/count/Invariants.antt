use Rattle.std.proofs.Common.{◌≡◌, map, take, length}
use Rattle.wasmi_link_lib.specs.Linking.{named_of, all_types}
use Rattle.wasmi_link_lib.proofs.types.count.Given as goal

abbrev pub invariant-loop-named : goal.invariant-loop-named
invariant-loop-named g l = l.count ≡ length (all_types (map named_of (take l.named-index l.modules)))
