use Rattle.wasmi_module.specs.Format.{IsValType}
use Rattle.wasmi_module.proofs.OnceItems.{val_type_once}
use Rattle.wasmi_module.proofs.LacksLemmas.{anyhow_of, only_of}
use Rattle.wasmi_module.proofs.items.ValTypeItem.read.Goals as goal

pub returns-clause-only : goal.returns-clause-only
returns-clause-only g c = only_of c.val_type.result IsValType val_type_once (λ ty. ty) _ _ _ c.val_type.ensures

pub returns-clause-lacks : goal.returns-clause-lacks
returns-clause-lacks g c = anyhow_of c.val_type.result _ _ _ _ c.val_type.ensures
