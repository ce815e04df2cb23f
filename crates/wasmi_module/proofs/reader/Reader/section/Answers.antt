use Rattle.std.specs.List.{All}
use Rattle.wasmi_module.proofs.SectionLemmas.{reads-there}
use Rattle.wasmi_module.proofs.LacksLemmas.{anyhow, passed}
use Rattle.wasmi_module.proofs.OrderLemmas.{none_after, none_lacks, left_out, there, there_lacks, there_more}
use Rattle.wasmi_module.proofs.reader.Reader.section.Goals as goal

pub returns-clause-written : goal.returns-clause-written
returns-clause-written g c =
    reads-there g.T.Item.writes _ c.args.number c.in-Some.contents c.vector.new.self _ c.customs.new.self _
    c.in_ok-customs.ensures.written (rw c.in-Some.is at c.in_ok-contents.ensures.found) c.in_ok-items.ensures.written c.in_ok-end.ensures

pub returns-in_default-clause-only : goal.returns-in_default-clause-only
returns-in_default-clause-only g c =
    rw c.new.ensures.items
    (left_out g.T.Item.writes c.args.number c.in_ok-customs.ensures.written c.in_ok-customs.ensures.all
    (rw c.in_default.is at c.in_ok-contents.ensures.absent) (rw c.in_default.is at c.in_ok-contents.ensures.none))

pub returns-clause-only : goal.returns-clause-only
returns-clause-only g c =
    there g.T.Item.writes c.args.number _ c.in-Some.contents c.in_ok-customs.ensures.written (rw c.in-Some.is at c.in_ok-contents.ensures.found) c.in_ok-items.ensures.only

pub returns-in_err-customs-clause-lacks : goal.returns-in_err-customs-clause-lacks
returns-in_err-customs-clause-lacks g c = anyhow c.from_residual.result (none_lacks g.T.Item.writes (All (g.T.Item.valid c.args.counts.now)) c.args.number c.in_err-customs.ensures.refused)

pub returns-in_err-contents-clause-lacks : goal.returns-in_err-contents-clause-lacks
returns-in_err-contents-clause-lacks g c =
    anyhow c.from_residual-in_err-contents.result
    (none_lacks g.T.Item.writes (All (g.T.Item.valid c.args.counts.now)) c.args.number (none_after c.in_ok-customs.ensures.written c.in_err-contents.ensures.refused))

pub returns-in_err-items-clause-lacks : goal.returns-in_err-items-clause-lacks
returns-in_err-items-clause-lacks g c =
    passed c.in_err-items.field-0.0 c.from_residual-in_err-items.result c.from_residual-in_err-items.ensures.1
    (λ other. there_lacks g.T.Item.writes (All (g.T.Item.valid c.args.counts.now)) c.args.number c.in-Some.contents c.in_ok-customs.ensures.written
    (rw c.in-Some.is at c.in_ok-contents.ensures.found) (c.in_err-items.ensures.lacks other))

pub returns-in_err-end-clause-lacks : goal.returns-in_err-end-clause-lacks
returns-in_err-end-clause-lacks g c =
    anyhow c.from_residual-in_err-end.result
    (there_more g.T.Item.writes (All (g.T.Item.valid c.args.counts.now)) c.args.number _ c.in-Some.contents c.in_ok-customs.ensures.written
    (rw c.in-Some.is at c.in_ok-contents.ensures.found) c.in_ok-items.ensures.only c.in_err-end.ensures)
