use Rattle.wasmi_interner.proofs.Interning.{interned_again, symbol_of-Interns}
use Rattle.wasmi_interner.proofs.Symbols.{symbol_of-Some}
use Rattle.wasmi_interner.proofs.laws.interned_texts.Goals as goal

pub returns-clause-resolves : goal.returns-clause-resolves
returns-clause-resolves c old text symbol new interns =
    symbol_of-Some text new symbol (symbol_of-Interns old text symbol new interns)

pub returns-clause-again : goal.returns-clause-again
returns-clause-again c = interned_again
