use Rattle.wasmi_interner.proofs.Interning.{interning-there, interning-known, interning-reads, interning-earlier}
use Rattle.wasmi_interner.proofs.string_interner.StringInterner.get_or_intern.Goals as goal

pub returns-clause-there : goal.returns-clause-there
returns-clause-there g c = interning-there c.args.self.now c.args.text.now c.get_or_intern_with_hint.new.self c.get_or_intern_with_hint.result c.get_or_intern_with_hint.ensures

pub returns-clause-known : goal.returns-clause-known
returns-clause-known g c = interning-known c.args.self.now c.args.text.now c.get_or_intern_with_hint.new.self c.get_or_intern_with_hint.result c.get_or_intern_with_hint.ensures

pub returns-clause-reads : goal.returns-clause-reads
returns-clause-reads g c = interning-reads c.args.self.now c.args.text.now c.get_or_intern_with_hint.new.self c.get_or_intern_with_hint.result c.get_or_intern_with_hint.ensures

pub returns-clause-earlier : goal.returns-clause-earlier
returns-clause-earlier g c = interning-earlier c.args.self.now c.args.text.now c.get_or_intern_with_hint.new.self c.get_or_intern_with_hint.result c.get_or_intern_with_hint.ensures
