use Rattle.std.proofs.Common.{map, take}
use Rattle.wasmi_link_lib.specs.Linking.{named_of}
use Rattle.wasmi_link_lib.specs.inner.Tables.{HasExports}
use Rattle.wasmi_link_lib.proofs.exports.all_exports.Given as goal

abbrev pub invariant-loop-number : goal.invariant-loop-number
invariant-loop-number g l = HasExports l.names l.exports.entries (map named_of (take l.number l.modules))
