use Rattle.std.proofs.Common.{◌≡◌, map, take}
use Rattle.std.specs.List.{flat_map}
use Rattle.wasmi_link_lib.specs.Lines.{line_of}
use Rattle.wasmi_link_lib.specs.Linking.{line_for, named_of}
use Rattle.wasmi_link_lib.proofs.linker.Linker.lines.Given as goal

abbrev pub invariant-loop-number : goal.invariant-loop-number
invariant-loop-number g l = map line_of l.lines.items ≡ flat_map (λ asker. map (line_for (map named_of l.modules) asker) asker.body.imports) (map named_of (take l.number l.modules))
