use Rattle.wasmi_module.specs.Format.{IsTableType}
use Rattle.wasmi_module.proofs.OnceItems.{table_type_once}
use Rattle.wasmi_module.proofs.LacksLemmas.{anyhow_of, only_of}
use Rattle.wasmi_module.proofs.items.TableTypeItem.read.Goals as goal

pub returns-clause-only : goal.returns-clause-only
returns-clause-only g c = only_of c.table_type.result IsTableType table_type_once (λ ty. ty) _ _ _ c.table_type.ensures

pub returns-clause-lacks : goal.returns-clause-lacks
returns-clause-lacks g c = anyhow_of c.table_type.result _ _ _ _ c.table_type.ensures
