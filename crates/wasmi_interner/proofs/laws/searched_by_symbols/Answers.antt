use Rattle.wasmi_interner.proofs.Searched.{no_symbol_reads, position_by_symbol, tested_by_symbol}
use Rattle.wasmi_interner.proofs.laws.searched_by_symbols.Goals as goal

pub returns-clause-test : goal.returns-clause-test
returns-clause-test c texts text symbol k distinct is below = tested_by_symbol texts distinct text symbol k is below

pub returns-clause-no_symbol : goal.returns-clause-no_symbol
returns-clause-no_symbol c texts text k distinct none below = no_symbol_reads texts distinct text k none below

pub returns-clause-position : goal.returns-clause-position
returns-clause-position c texts text symbol symbols distinct is within = position_by_symbol texts distinct text symbol is symbols within
