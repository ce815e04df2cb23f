use Rattle.wasmi_module.specs.Format.{IsMemoryType}
use Rattle.wasmi_module.proofs.OnceItems.{memory_type_once}
use Rattle.wasmi_module.proofs.LacksLemmas.{anyhow_of, only_of}
use Rattle.wasmi_module.proofs.items.MemoryTypeItem.read.Goals as goal

pub returns-clause-only : goal.returns-clause-only
returns-clause-only g c = only_of c.memory_type.result IsMemoryType memory_type_once (λ ty. ty) _ _ _ c.memory_type.ensures

pub returns-clause-lacks : goal.returns-clause-lacks
returns-clause-lacks g c = anyhow_of c.memory_type.result _ _ _ _ c.memory_type.ensures
