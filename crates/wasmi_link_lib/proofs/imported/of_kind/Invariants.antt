use Rattle.std.proofs.Common.{◌≡◌, map, take}
use Rattle.std.specs.List.{filter}
use Rattle.wasmi_module.specs.Valid.{is_of}
use Rattle.wasmi_module.specs.Views.{import_of}
use Rattle.wasmi_link_lib.proofs.imported.of_kind.Given as goal

abbrev pub invariant-loop-import : goal.invariant-loop-import
invariant-loop-import g l = l.items.items ≡ filter (is_of l.kind) (map (λ i. i.item) (map import_of (take l.import-index l.import-items)))
