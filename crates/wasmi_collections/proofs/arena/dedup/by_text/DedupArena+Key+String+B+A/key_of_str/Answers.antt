use Rattle.std.proofs.Common.{◌∙◌, ◌≤◌, length, map, option_map, string_bytes, sym, ap, arith}
use Rattle.wasmi_collections.specs.Dedup.{in_order}
use Rattle.wasmi_collections.proofs.DedupTexts.{distinct_bytes, finds_text, place_of_text}
use Rattle.wasmi_interner.proofs.Symbols.{symbol_of-at, symbol_of-Some}
use Rattle.wasmi_collections.proofs.arena.dedup.by_text.DedupArena+Key+String+B+A.key_of_str.Goals as goal

pub returns-in-Some-clause-value : goal.returns-in-Some-clause-value
returns-in-Some-clause-value g c =
    let keys = g.Key.ArenaKey.keys in let index = c.self.inside.index.entries in
    rw (← c.self.view_is) (c.in-Some.ensures.text ∙ finds_text keys (in_order keys index) index c.self.invariant.0 c.args.text.now)

pub returns-in-None-clause-value : goal.returns-in-None-clause-value
returns-in-None-clause-value g c =
    let keys = g.Key.ArenaKey.keys in let index = c.self.inside.index.entries in
    rw (← c.self.view_is) (c.in-None.ensures.text ∙ finds_text keys (in_order keys index) index c.self.invariant.0 c.args.text.now)

pub returns-in-Some-clause-known : goal.returns-in-Some-clause-known
returns-in-Some-clause-known g c =
    let keys = g.Key.ArenaKey.keys in let index = c.self.inside.index.entries in
    let few : length (in_order keys index) ≤ keys.count = let same = c.self.invariant.1 in let low = c.self.invariant.2 in omega (arith, same, low) in
    rw (← c.self.view_is) (place_of_text keys g.met.Key.ArenaKey.key_law (in_order keys index) c.args.text.now c.in-Some.key.now few (sym (finds_text keys (in_order keys index) index c.self.invariant.0 c.args.text.now) ∙ sym c.in-Some.ensures.text)).1

pub returns-in-Some-clause-within : goal.returns-in-Some-clause-within
returns-in-Some-clause-within g c =
    let keys = g.Key.ArenaKey.keys in let index = c.self.inside.index.entries in
    let few : length (in_order keys index) ≤ keys.count = let same = c.self.invariant.1 in let low = c.self.invariant.2 in omega (arith, same, low) in
    let at = (place_of_text keys g.met.Key.ArenaKey.key_law (in_order keys index) c.args.text.now c.in-Some.key.now few (sym (finds_text keys (in_order keys index) index c.self.invariant.0 c.args.text.now) ∙ sym c.in-Some.ensures.text)).0 in
    let same = c.self.invariant.1 in
    rw (← c.self.view_is) (omega (arith, at, same))

pub returns-in-Some-clause-reads : goal.returns-in-Some-clause-reads
returns-in-Some-clause-reads g c =
    let keys = g.Key.ArenaKey.keys in let index = c.self.inside.index.entries in
    let few : length (in_order keys index) ≤ keys.count = let same = c.self.invariant.1 in let low = c.self.invariant.2 in omega (arith, same, low) in
    rw (← c.self.view_is) (symbol_of-Some c.args.text.now (map string_bytes (in_order keys index)) (keys.number c.in-Some.key.now) (place_of_text keys g.met.Key.ArenaKey.key_law (in_order keys index) c.args.text.now c.in-Some.key.now few (sym (finds_text keys (in_order keys index) index c.self.invariant.0 c.args.text.now) ∙ sym c.in-Some.ensures.text)).1)

pub returns-in-Some-clause-alone : goal.returns-in-Some-clause-alone
returns-in-Some-clause-alone g c =
    let keys = g.Key.ArenaKey.keys in let index = c.self.inside.index.entries in let texts = map string_bytes (in_order keys index) in
    rw (← c.self.view_is) (λ place at. c.in-Some.ensures.text ∙ (finds_text keys (in_order keys index) index c.self.invariant.0 c.args.text.now ∙ ap (option_map keys.key) (symbol_of-at c.args.text.now texts place (distinct_bytes (in_order keys index) c.self.invariant.0.distinct) at)))

pub returns-in-None-clause-alone : goal.returns-in-None-clause-alone
returns-in-None-clause-alone g c =
    let keys = g.Key.ArenaKey.keys in let index = c.self.inside.index.entries in let texts = map string_bytes (in_order keys index) in
    rw (← c.self.view_is) (λ place at. c.in-None.ensures.text ∙ (finds_text keys (in_order keys index) index c.self.invariant.0 c.args.text.now ∙ ap (option_map keys.key) (symbol_of-at c.args.text.now texts place (distinct_bytes (in_order keys index) c.self.invariant.0.distinct) at)))
