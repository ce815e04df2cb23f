use Rattle.std.proofs.Common.{◌≡◌, ◌≤◌, ◌∙◌, Some, option_map, length, position, sym, ap, arith}
use Rattle.wasmi_collections.specs.Dedup.{in_order}
use Rattle.wasmi_collections.proofs.DedupReads.{place_of_key, position-alone, position-reads}
use Rattle.wasmi_collections.proofs.arena.dedup.DedupArena.key_of.Goals as goal

pub returns-in-Some-clause-reads : goal.returns-in-Some-clause-reads
returns-in-Some-clause-reads g c =
    let keys = g.Key.ArenaKey.keys in let eq = g.T.PartialEq.eq in let handed = in_order keys c.self.inside.index.entries in let value = c.args.value.now in
    let few : length handed ≤ keys.count = let same = c.self.invariant.1 in let low = c.self.invariant.2 in omega (arith, same, low) in
    let found : Some c.in-Some.key.now ≡ option_map keys.key (position (eq value) handed) = c.in-Some.ensures ∙ c.self.invariant.0.finds value in
    rw (← c.self.view_is) (position-reads (eq value) handed (keys.number c.in-Some.key.now) (place_of_key keys g.met.Key.ArenaKey.key_law eq handed value c.in-Some.key.now few (sym found)))

pub returns-in-Some-clause-alone : goal.returns-in-Some-clause-alone
returns-in-Some-clause-alone g c =
    let keys = g.Key.ArenaKey.keys in let eq = g.T.PartialEq.eq in let handed = in_order keys c.self.inside.index.entries in let value = c.args.value.now in
    rw (← c.self.view_is) (λ place other at same. c.in-Some.ensures ∙ (c.self.invariant.0.finds value ∙ ap (option_map keys.key) (position-alone g.met.T.Eq.laws value handed place other c.self.invariant.0.distinct at same)))

pub returns-in-None-clause-alone : goal.returns-in-None-clause-alone
returns-in-None-clause-alone g c =
    let keys = g.Key.ArenaKey.keys in let eq = g.T.PartialEq.eq in let handed = in_order keys c.self.inside.index.entries in let value = c.args.value.now in
    rw (← c.self.view_is) (λ place other at same. c.in-None.ensures ∙ (c.self.invariant.0.finds value ∙ ap (option_map keys.key) (position-alone g.met.T.Eq.laws value handed place other c.self.invariant.0.distinct at same)))
