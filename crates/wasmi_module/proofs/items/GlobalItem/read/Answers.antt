use Rattle.wasmi_module.specs.Format.{IsGlobal}
use Rattle.wasmi_module.proofs.ReadLemmas.{reads-then}
use Rattle.wasmi_module.proofs.OnceItems.{global_once}
use Rattle.wasmi_module.proofs.LacksLemmas.{only-once, anyhow, lacks-with}
use Rattle.wasmi_module.proofs.LacksItems.{lacks-global_type, lacks-global_init}
use Rattle.wasmi_module.proofs.items.GlobalItem.read.Goals as goal

pub returns-clause-written : goal.returns-clause-written
returns-clause-written g c = reads-then c.global_type.new.self c.in_ok-ty.ensures c.in_ok-init.ensures

pub returns-clause-only : goal.returns-clause-only
returns-clause-only g c = only-once IsGlobal global_once (reads-then c.global_type.new.self c.in_ok-ty.ensures c.in_ok-init.ensures)

pub returns-in_err-ty-clause-lacks : goal.returns-in_err-ty-clause-lacks
returns-in_err-ty-clause-lacks g c = anyhow c.from_residual.result (lacks-with _ (lacks-global_type c.in_err-ty.ensures))

pub returns-in_err-init-clause-lacks : goal.returns-in_err-init-clause-lacks
returns-in_err-init-clause-lacks g c =
    anyhow c.from_residual-in_err-init.result (lacks-with _ (lacks-global_init c.in_ok-ty.ty c.global_type.new.self c.in_ok-ty.ensures c.in_err-init.ensures))
