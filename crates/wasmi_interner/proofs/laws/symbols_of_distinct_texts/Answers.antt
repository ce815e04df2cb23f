use Rattle.wasmi_interner.proofs.Symbols.{symbol_of-at, symbol_of-Some}
use Rattle.wasmi_interner.proofs.laws.symbols_of_distinct_texts.Goals as goal

pub returns-clause-reads : goal.returns-clause-reads
returns-clause-reads c texts text symbol is = symbol_of-Some text texts symbol is

pub returns-clause-stands : goal.returns-clause-stands
returns-clause-stands c texts text symbol distinct at = symbol_of-at text texts symbol distinct at
