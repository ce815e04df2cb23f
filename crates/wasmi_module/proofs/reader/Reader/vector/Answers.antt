use Rattle.std.proofs.Common.{sym, ◌∙◌}
use Rattle.std.proofs.lemmas.List.{length-map}
use Rattle.wasmi_module.proofs.ReadLemmas.{reads-then, reads-u32_at}
use Rattle.wasmi_module.proofs.LacksLemmas.{anyhow, passed}
use Rattle.wasmi_module.proofs.LacksItems.{vector_only, vector_none, vector_lacks}
use Rattle.wasmi_module.proofs.reader.Reader.vector.Goals as goal

pub returns-clause-written : goal.returns-clause-written
returns-clause-written g c =
    let len = length-map c.in_ok-items.items.items g.T.Item.plain ∙ c.in_ok-items.ensures.len in
    reads-then c.u32.new.self (reads-u32_at c.in_ok-count.count _ _ _ (sym len) c.in_ok-count.ensures) c.in_ok-items.ensures.each

pub returns-clause-only : goal.returns-clause-only
returns-clause-only g c = vector_only g.T.Item.writes c.in_ok-count.count _ c.u32.new.self c.in_ok-count.ensures c.in_ok-items.ensures.only

pub returns-in_err-count-clause-lacks : goal.returns-in_err-count-clause-lacks
returns-in_err-count-clause-lacks g c = anyhow c.from_residual.result (vector_none g.T.Item.writes (g.T.Item.valid c.args.counts.now) c.in_err-count.ensures)

pub returns-in_err-items-clause-lacks : goal.returns-in_err-items-clause-lacks
returns-in_err-items-clause-lacks g c =
    passed c.in_err-items.field-0.0 c.from_residual-in_err-items.result c.from_residual-in_err-items.ensures.1
    (λ other. vector_lacks g.T.Item.writes (g.T.Item.valid c.args.counts.now) c.in_ok-count.count c.u32.new.self c.in_ok-count.ensures (c.in_err-items.ensures.lacks other))
