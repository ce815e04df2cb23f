use Rattle.std.proofs.Common.{arith}
use Rattle.wasmi_module.specs.Numbers.{IsU32}
use Rattle.wasmi_module.specs.Valid.{IsTypeIndex}
use Rattle.wasmi_module.proofs.OnceLemmas.{u32_once}
use Rattle.wasmi_module.proofs.LacksLemmas.{only-once, anyhow, lacks-with, lacks-invalid}
use Rattle.wasmi_module.proofs.items.U32Item.read.Goals as goal

pub returns-clause-only : goal.returns-clause-only
returns-clause-only g c = only-once IsU32 u32_once c.in_ok-index.ensures

pub returns-in_err-index-clause-lacks : goal.returns-in_err-index-clause-lacks
returns-in_err-index-clause-lacks g c = anyhow c.from_residual.result (lacks-with _ c.in_err-index.ensures)

pub returns-then-counts-index-clause-lacks : goal.returns-then-counts-index-clause-lacks
returns-then-counts-index-clause-lacks g c = λ _. lacks-invalid IsU32 u32_once (IsTypeIndex c.args.counts.now) {x = c.in_ok-index.index} _ c.in_ok-index.ensures (λ within. absurd (omega arith))
