use Rattle.std.proofs.Common.{map, take}
use Rattle.wasmi_link_lib.specs.Linking.{named_of}
use Rattle.wasmi_link_lib.specs.inner.Tables.{HasFirsts}
use Rattle.wasmi_link_lib.proofs.firsts.first_modules.Given as goal

abbrev pub invariant-loop-number : goal.invariant-loop-number
invariant-loop-number g l = HasFirsts l.names l.firsts (map named_of (take l.number l.modules))
