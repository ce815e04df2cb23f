use Rattle.std.proofs.Common.{◌≡◌, ◌+◌, ◌<◌, ◌≤◌, slice_get}
use Rattle.wasmi_interner.specs.BinaryDigits.{digits}
use Rattle.wasmi_interner.specs.inner.Search.{IsNarrowed}
use Rattle.wasmi_interner.proofs.probe.search.Given as goal

-- each look so far took a digit from what is left, and no more than one
abbrev pub invariant-loop-left : goal.invariant-loop-left
invariant-loop-left g l = record {
  narrowed : IsNarrowed (slice_get (g.P.Probe.orders l.fn.probe)) l.fn.len l.low (l.low + l.left);
  kept : g.P.Probe.orders l.probe ≡ g.P.Probe.orders l.fn.probe;
  few : g.P.Probe.looks l.probe + digits l.left ≤ g.P.Probe.looks l.fn.probe + digits l.fn.len;
  more : l.left < l.fn.len → g.P.Probe.looks l.fn.probe < g.P.Probe.looks l.probe;
  none : g.P.Probe.looks l.fn.probe ≤ g.P.Probe.looks l.probe;
  many : g.P.Probe.looks l.fn.probe + digits (l.fn.len + 1) ≤ g.P.Probe.looks l.probe + digits (l.left + 1);
}

abbrev pub decreases-loop-left : goal.decreases-loop-left
decreases-loop-left g l = l.left
