use Rattle.std.proofs.Common.{◌≡◌, length, sym, ap, ◌∙◌}
use Rattle.wasmi_interner.specs.Interner.{with_symbols}
use Rattle.wasmi_interner.proofs.WithSymbols.{length-with_symbols_from, symbols_of_all}
use Rattle.wasmi_interner.proofs.string_interner.StringInterner.iter.Goals as goal

pub returns-clause-entries : goal.returns-clause-entries
returns-clause-entries g c =
    let all : c.len.result ≡ length c.self.inside.texts = c.len.ensures.value ∙ ap length (sym c.self.view_is) in
    symbols_of_all c.self.inside.texts c.len.result all ∙ ap with_symbols c.self.view_is

pub returns-clause-len : goal.returns-clause-len
returns-clause-len g c =
    let all : c.len.result ≡ length c.self.inside.texts = c.len.ensures.value ∙ ap length (sym c.self.view_is) in
    ap length (symbols_of_all c.self.inside.texts c.len.result all) ∙ (length-with_symbols_from 0 c.self.inside.texts ∙ ap length c.self.view_is)
