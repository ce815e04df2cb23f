use Rattle.std.proofs.Common.{arith}
use Rattle.wasmi_link_lib.proofs.ReportLemmas.{report_written}
use Rattle.wasmi_link_lib.proofs.text.report.Goals as goal

pub returns : goal.returns
returns g c =
    report_written c.args.linked.now c.deref-line-items.result.now _ c.loop-line.line-index _ c.deref-line-items.ensures.value (omega arith) c.loop-line.invariant c.in_ok-write_counts.ensures
