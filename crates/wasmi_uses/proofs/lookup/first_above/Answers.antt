use Rattle.std.proofs.Common.{rules, tests, sym, ap, subst, ◌∙◌, nat_lt, option_map}
use Rattle.std.specs.Iterator.{YieldsFirstBy}
use Rattle.std.proofs.lemmas.Iterator.Consumers.{YieldsList-from_first}
use Rattle.std.proofs.lemmas.Iterator.Search.{find_from_yields_List}
use Rattle.wasmi_uses.proofs.lookup.first_above.Goals as goal

pub returns-in-Some-clause-first : goal.returns-in-Some-clause-first
returns-in-Some-clause-first g c =
    let ran = c.find.ensures.ran in
    let found = ap (option_map (λ entry. (entry.0, entry.1.now))) (sym c.in-Some.is) ∙ find_from_yields_List (λ entry. nat_lt c.args.limit entry.1) _ _ _ c.find.ensures.ran (YieldsList-from_first (λ entry. (entry.0, entry.1.now)) (λ es. es) _ c.iter.ensures.entries) (λ x b q k. search (rules, tests)) in
    let next = subst (λ r. YieldsFirstBy (λ entry. (entry.0, entry.1.now)) (λ entries. entries) ran.2.0 r c.find.new.self) c.in-Some.is ran.2.2 in
    let read = c.walked_entries_read.ensures.reads c.args.arena.now _ ran.0 c.in-Some.key c.in-Some.field-0-1.now ran.2.0 c.find.new.self c.len.ensures.keyed c.iter.ensures.entries ran.2.1 next in
    search (rules, tests, found, read)

pub returns-in-None-clause-first : goal.returns-in-None-clause-first
returns-in-None-clause-first g c =
    ap (option_map (λ entry. (entry.0, entry.1.now))) (sym c.in-None.is) ∙ find_from_yields_List (λ entry. nat_lt c.args.limit entry.1) _ _ _ c.find.ensures.ran (YieldsList-from_first (λ entry. (entry.0, entry.1.now)) (λ es. es) _ c.iter.ensures.entries) (λ x b q k. search (rules, tests))
