use Rattle.wasmi_module.proofs.LawLemmas.{unsigned_once}
use Rattle.wasmi_module.proofs.laws.numbers_read_once.Goals as goal

pub returns : goal.returns
returns c = unsigned_once
