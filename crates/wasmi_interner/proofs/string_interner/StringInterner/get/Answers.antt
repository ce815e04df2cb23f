use Rattle.std.proofs.Common.{◌∙◌}
use Rattle.wasmi_interner.proofs.Symbols.{symbol_of-at, symbol_reads}
use Rattle.wasmi_interner.proofs.string_interner.StringInterner.get.Goals as goal

pub returns-clause-reads : goal.returns-clause-reads
returns-clause-reads g c = symbol_reads c.args.text.now c.args.self.now c.get_counted.result c.get_counted.ensures.symbol

pub returns-clause-alone : goal.returns-clause-alone
returns-clause-alone g c symbol at = c.get_counted.ensures.symbol ∙ symbol_of-at c.args.text.now c.args.self.now symbol c.len.ensures.distinct at
