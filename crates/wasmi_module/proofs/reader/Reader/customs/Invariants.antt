use Rattle.std.proofs.Common.{length}
use Rattle.wasmi_module.specs.inner.Reading.{Reads}
use Rattle.wasmi_module.specs.Sections.{AreCustoms}
use Rattle.wasmi_module.proofs.reader.Reader.customs.Given as goal

abbrev pub decreases-loop : goal.decreases-loop
decreases-loop l = length l.self

-- custom sections were read, from the first byte on
abbrev pub invariant-loop : goal.invariant-loop
invariant-loop l = Reads AreCustoms l.fn.self l.self
