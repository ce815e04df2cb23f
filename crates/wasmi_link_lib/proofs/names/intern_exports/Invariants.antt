use Rattle.std.proofs.Common.{◌≡◌, map, take}
use Rattle.std.specs.List.{fold}
use Rattle.std.specs.Str.{bytes_eq}
use Rattle.wasmi_module.specs.Views.{export_of}
use Rattle.wasmi_link_lib.specs.Linking.{with_value}
use Rattle.wasmi_link_lib.proofs.names.intern_exports.Given as goal

abbrev pub invariant-loop-export : goal.invariant-loop-export
invariant-loop-export g l = l.names ≡ fold (with_value bytes_eq) l.fn.names (map (λ e. e.name) (map export_of (take l.export-index l.exports)))
