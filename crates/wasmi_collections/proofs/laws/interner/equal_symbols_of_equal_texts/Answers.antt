use Rattle.wasmi_collections.proofs.InternerRuns.{equal_symbols}
use Rattle.wasmi_collections.proofs.laws.interner.equal_symbols_of_equal_texts.Goals as goal

pub returns : goal.returns
returns c = equal_symbols
