use Rattle.wasmi_module.specs.Format.{IsImport}
use Rattle.wasmi_module.specs.Valid.{IsImportWithin}
use Rattle.wasmi_module.proofs.ReadLemmas.{reads-then}
use Rattle.wasmi_module.proofs.OnceItems.{import_once}
use Rattle.wasmi_module.proofs.LacksLemmas.{only-once, anyhow, lacks-with, lacks-invalid}
use Rattle.wasmi_module.proofs.LacksItems.{lacks-import_asked, lacks-import_field, lacks-import_item}
use Rattle.wasmi_module.proofs.items.ImportItem.read.Goals as goal

pub returns-clause-written : goal.returns-clause-written
returns-clause-written g c =
    reads-then c.name.new.self c.in_ok-module.ensures (reads-then c.name-2.new.self c.in_ok-field.ensures c.in_ok-item.ensures)

pub returns-clause-only : goal.returns-clause-only
returns-clause-only g c =
    only-once IsImport import_once
    (reads-then c.name.new.self c.in_ok-module.ensures (reads-then c.name-2.new.self c.in_ok-field.ensures c.in_ok-item.ensures))

pub returns-in_err-module-clause-lacks : goal.returns-in_err-module-clause-lacks
returns-in_err-module-clause-lacks g c = anyhow c.from_residual.result (lacks-with _ (lacks-import_asked c.in_err-module.ensures))

pub returns-in_err-field-clause-lacks : goal.returns-in_err-field-clause-lacks
returns-in_err-field-clause-lacks g c =
    anyhow c.from_residual-in_err-field.result (lacks-with _ (lacks-import_field c.in_ok-module.module.now c.name.new.self c.in_ok-module.ensures c.in_err-field.ensures))

pub returns-in_err-item-clause-lacks : goal.returns-in_err-item-clause-lacks
returns-in_err-item-clause-lacks g c =
    anyhow c.from_residual-in_err-item.result
    (lacks-with _
    (lacks-import_item c.in_ok-module.module.now c.in_ok-field.field.now c.name.new.self c.name-2.new.self c.in_ok-module.ensures c.in_ok-field.ensures c.in_err-item.ensures))

pub returns-then-not-is_import_within-clause-lacks : goal.returns-then-not-is_import_within-clause-lacks
returns-then-not-is_import_within-clause-lacks g c = λ _.
    lacks-invalid IsImport import_once (λ import. IsImportWithin c.args.counts.now import.item)
    {x = record { asked = c.in_ok-module.module.now; field = c.in_ok-field.field.now; item = c.in_ok-item.item }} _
    (reads-then c.name.new.self c.in_ok-module.ensures (reads-then c.name-2.new.self c.in_ok-field.ensures c.in_ok-item.ensures))
    (λ within. let t = c.if-not-is_import_within.ensures.1 within in absurd cc)
