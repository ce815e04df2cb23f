use Rattle.std.proofs.Common.{◌≡◌, ◌++◌, map, take}
use Rattle.wasmi_module.specs.Views.{import_of}
use Rattle.wasmi_link_lib.specs.Lines.{line_of}
use Rattle.wasmi_link_lib.specs.Linking.{line_for, named_of}
use Rattle.wasmi_link_lib.proofs.linker.Linker.push_lines.Given as goal

abbrev pub invariant-loop-place : goal.invariant-loop-place
invariant-loop-place g l = map line_of l.lines.items ≡ map line_of l.fn.lines.items ++ map (line_for (map named_of l.modules) (named_of l.asker)) (map import_of (take l.place l.import-items))
