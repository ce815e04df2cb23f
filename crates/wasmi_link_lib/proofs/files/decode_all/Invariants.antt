use Rattle.std.proofs.Common.{map, take}
use Rattle.std.specs.List.{AllZip}
use Rattle.wasmi_link_lib.specs.Files.{IsIn}
use Rattle.wasmi_link_lib.specs.Linking.{named_of}
use Rattle.wasmi_link_lib.proofs.files.decode_all.Given as goal

abbrev pub invariant-loop-place : goal.invariant-loop-place
invariant-loop-place g l = AllZip IsIn (take l.place l.files) (map named_of l.modules.items)
