use Rattle.std.proofs.Common.{◌≡◌, ◌∙◌, Some, ap, arith, length, slice_get, sym, subst, true≢false}
use Rattle.wasmi_interner.specs.inner.HashTable.{met_in}
use Rattle.wasmi_interner.specs.declared.entry.Entry.{Entry}
use Rattle.wasmi_interner.proofs.BinaryDigits.{digits_some}
use Rattle.wasmi_interner.proofs.Filing.{in_rest, not_at_gap, only_one, rest_without, taken_entry}
use Rattle.wasmi_interner.proofs.Symbols.{symbol_of-at, symbol_of-nowhere}
use Rattle.wasmi_interner.proofs.index.Index.find.Goals as goal

pub is_text_of-requires-clause-within : goal.is_text_of-requires-clause-within
is_text_of-requires-clause-within g c =
    (taken_entry c.args.sought.now.texts.now c.args.self.now.slots c.args.sought.now.hash c.in-One.place c.in-One.ensures c.requires.indexed.slots c.at-symbol.result c.at-symbol.ensures).0.within

pub returns-in-Some-clause-there : goal.returns-in-Some-clause-there
returns-in-Some-clause-there g c =
    symbol_of-at c.args.sought.now.text.now c.args.sought.now.texts.now c.in-Some.symbol c.requires.indexed.distinct c.in-Some.ensures.there

pub returns-in-None-clause-absent : goal.returns-in-None-clause-absent
returns-in-None-clause-absent g c =
    let sought = c.args.sought.now in let table = c.args.self.now.slots in
    symbol_of-nowhere sought.text.now sought.texts.now
    (not_at_gap sought.texts.now table c.args.self.now.rest.entries c.requires.indexed sought.text.now (ap (met_in table) (sym sought.hashed) ∙ c.in-Gap.ensures.now))

pub returns-then-is_text_of-clause-there : goal.returns-then-is_text_of-clause-there
returns-then-is_text_of-clause-there g c =
    symbol_of-at c.args.sought.now.text.now c.args.sought.now.texts.now c.at-symbol.result.symbol c.requires.indexed.distinct (c.is_text_of.ensures.same.0 c.if-is_text_of.true)

pub returns-then-is_text_of-clause-few_steps : goal.returns-then-is_text_of-clause-few_steps
returns-then-is_text_of-clause-few_steps g c =
    let its = (taken_entry c.args.sought.now.texts.now c.args.self.now.slots c.args.sought.now.hash c.in-One.place c.in-One.ensures c.requires.indexed.slots c.at-symbol.result c.at-symbol.ensures).0 in
    omega (arith, c.is_text_of.ensures.counted, digits_some (length c.args.sought.now.texts.now) (omega (arith, its.within)))

pub returns-else-is_text_of-clause-absent : goal.returns-else-is_text_of-clause-absent
returns-else-is_text_of-clause-absent g c =
    let sought = c.args.sought.now in let table = c.args.self.now.slots in
    let slot = c.at-symbol.result in
    let its = taken_entry sought.texts.now table sought.hash c.in-One.place c.in-One.ensures c.requires.indexed.slots slot c.at-symbol.ensures in
    symbol_of-nowhere sought.text.now sought.texts.now (λ s at.
    let same = only_one sought.texts.now table c.args.self.now.rest.entries c.requires.indexed sought.text.now c.in-One.ensures.symbol (ap (met_in table) (sym sought.hashed) ∙ c.in-One.ensures.now) s at in
    let here = same ∙ sym (ap (λ (e : Entry). e.symbol) its.1) in
    true≢false (sym (c.is_text_of.ensures.same.1 (subst (λ k. slice_get sought.texts.now k ≡ Some sought.text.now) here at)) ∙ c.if-is_text_of.false))

pub returns-else-is_text_of-clause-few_steps : goal.returns-else-is_text_of-clause-few_steps
returns-else-is_text_of-clause-few_steps g c =
    let its = (taken_entry c.args.sought.now.texts.now c.args.self.now.slots c.args.sought.now.hash c.in-One.place c.in-One.ensures c.requires.indexed.slots c.at-symbol.result c.at-symbol.ensures).0 in
    omega (arith, c.is_text_of.ensures.counted, digits_some (length c.args.sought.now.texts.now) (omega (arith, its.within)))

pub returns-in-Ok-clause-there : goal.returns-in-Ok-clause-there
returns-in-Ok-clause-there g c =
    symbol_of-at c.args.sought.now.text.now c.args.sought.now.texts.now c.in-Ok.symbol c.requires.indexed.distinct c.in-Ok.ensures.there

pub returns-in-Err-clause-absent : goal.returns-in-Err-clause-absent
returns-in-Err-clause-absent g c =
    let sought = c.args.sought.now in let table = c.args.self.now.slots in let entries = c.args.self.now.rest.entries in
    symbol_of-nowhere sought.text.now sought.texts.now (λ s at.
    rest_without sought.texts.now sought.hash sought.text.now sought.hashed entries c.requires.indexed.rest.each c.in-Err.rank c.in-Err.ensures.absent.1 c.in-Err.ensures.absent.2 s at
    (in_rest sought.texts.now table entries c.requires.indexed sought.text.now (ap (met_in table) (sym sought.hashed) ∙ c.in-Rest.ensures) s at))
