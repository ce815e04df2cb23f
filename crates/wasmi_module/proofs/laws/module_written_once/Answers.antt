use Rattle.wasmi_module.proofs.OnceSections.{written_once}
use Rattle.wasmi_module.proofs.laws.module_written_once.Goals as goal

pub returns : goal.returns
returns c = written_once
