use Rattle.wasmi_interner.proofs.Symbols.{symbol_of-last}
use Rattle.wasmi_interner.proofs.laws.appended_texts.Goals as goal

pub returns-clause-last : goal.returns-clause-last
returns-clause-last c texts text absent = symbol_of-last text texts absent
