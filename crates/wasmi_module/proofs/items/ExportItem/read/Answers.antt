use Rattle.std.proofs.Common.{◌≤◌, arith}
use Rattle.wasmi_module.specs.Format.{IsExport}
use Rattle.wasmi_module.specs.Valid.{IsExportWithin, count_of}
use Rattle.wasmi_module.proofs.ReadLemmas.{reads-then}
use Rattle.wasmi_module.proofs.OnceItems.{export_once}
use Rattle.wasmi_module.proofs.LacksLemmas.{only-once, anyhow, lacks-with, lacks-invalid}
use Rattle.wasmi_module.proofs.LacksItems.{lacks-export_name, lacks-export_kind, lacks-export_index}
use Rattle.wasmi_module.proofs.items.ExportItem.read.Goals as goal

pub returns-clause-written : goal.returns-clause-written
returns-clause-written g c =
    reads-then c.name.new.self c.in_ok-name.ensures (reads-then c.kind.new.self c.in_ok-kind.ensures c.in_ok-index.ensures)

pub returns-clause-only : goal.returns-clause-only
returns-clause-only g c =
    only-once IsExport export_once
    (reads-then c.name.new.self c.in_ok-name.ensures (reads-then c.kind.new.self c.in_ok-kind.ensures c.in_ok-index.ensures))

pub returns-in_err-name-clause-lacks : goal.returns-in_err-name-clause-lacks
returns-in_err-name-clause-lacks g c = anyhow c.from_residual.result (lacks-with _ (lacks-export_name c.in_err-name.ensures))

pub returns-in_err-kind-clause-lacks : goal.returns-in_err-kind-clause-lacks
returns-in_err-kind-clause-lacks g c =
    anyhow c.from_residual-in_err-kind.result (lacks-with _ (lacks-export_kind c.in_ok-name.name.now c.name.new.self c.in_ok-name.ensures c.in_err-kind.ensures))

pub returns-in_err-index-clause-lacks : goal.returns-in_err-index-clause-lacks
returns-in_err-index-clause-lacks g c =
    anyhow c.from_residual-in_err-index.result
    (lacks-with _
    (lacks-export_index c.in_ok-name.name.now c.in_ok-kind.kind c.name.new.self c.kind.new.self c.in_ok-name.ensures c.in_ok-kind.ensures c.in_err-index.ensures))

pub returns-then-of-index-clause-lacks : goal.returns-then-of-index-clause-lacks
returns-then-of-index-clause-lacks g c = λ _.
    lacks-invalid IsExport export_once (IsExportWithin c.args.counts.now)
    {x = record { name = c.in_ok-name.name.now; kind = c.in_ok-kind.kind; index = c.in_ok-index.index }} _
    (reads-then c.name.new.self c.in_ok-name.ensures (reads-then c.kind.new.self c.in_ok-kind.ensures c.in_ok-index.ensures))
    (λ within. let most : count_of c.args.counts.now c.in_ok-kind.kind ≤ c.in_ok-index.index = rw c.of.ensures at c.if-of-index.true in absurd (omega arith))
