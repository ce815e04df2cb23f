use Rattle.std.proofs.Common.{◌≡◌, map, take}
use Rattle.wasmi_link_lib.specs.Linking.{named_of}
use Rattle.wasmi_link_lib.specs.inner.Tables.{all_imported, imported_view}
use Rattle.wasmi_link_lib.proofs.imported.of_all.Given as goal

abbrev pub invariant-loop-named : goal.invariant-loop-named
invariant-loop-named g l = map imported_view l.all.items ≡ map (λ m. all_imported m.body) (map named_of (take l.named-index l.modules))
