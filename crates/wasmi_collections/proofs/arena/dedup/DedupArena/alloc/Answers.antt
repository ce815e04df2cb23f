use Rattle.std.proofs.Common.{◌≡◌, ◌≤◌, ◌∙◌, Some, option_map, length, position, sym, arith}
use Rattle.std.proofs.lemmas.Result.{IfOk-weaker}
use Rattle.wasmi_collections.specs.Dedup.{in_order}
use Rattle.wasmi_collections.proofs.Dedup.{index-absent}
use Rattle.wasmi_collections.proofs.DedupReads.{items_stay, place_of_key, position-reads, values_stay}
use Rattle.wasmi_collections.proofs.arena.dedup.DedupArena.alloc.Goals as goal

pub hand_in-requires-clause-absent : goal.hand_in-requires-clause-absent
hand_in-requires-clause-absent g c =
    rw (← c.self.view_is) (index-absent g.Key.ArenaKey.keys g.T.PartialEq.eq c.self.inside.index.entries (length c.self.inside.items.items) c.args.value c.self.invariant c.in_default.ensures)

pub returns-in-Some-clause-reads : goal.returns-in-Some-clause-reads
returns-in-Some-clause-reads g c =
    let keys = g.Key.ArenaKey.keys in let eq = g.T.PartialEq.eq in let handed = in_order keys c.self.inside.index.entries in let value = c.args.value in
    let few : length handed ≤ keys.count = let same = c.self.invariant.1 in let low = c.self.invariant.2 in omega (arith, same, low) in
    let found : Some c.in-Some.key.now ≡ option_map keys.key (position (eq value) handed) = c.in-Some.ensures ∙ c.self.invariant.0.finds value in
    rw (← c.self.view_is) (position-reads (eq value) handed (keys.number c.in-Some.key.now) (place_of_key keys g.met.Key.ArenaKey.key_law eq handed value c.in-Some.key.now few (sym found)))

pub returns-clause-reads : goal.returns-clause-reads
returns-clause-reads g c =
    IfOk-weaker c.hand_in.result _ _ (λ key at. position-reads (g.T.PartialEq.eq c.args.value) c.hand_in.new.self.handed (g.Key.ArenaKey.keys.number key) at) c.hand_in.ensures.known

pub returns-clause-earlier : goal.returns-clause-earlier
returns-clause-earlier g c =
    items_stay g.Key.ArenaKey.keys g.T.PartialEq.eq g.T.Clone.is_clone c.args.self.now c.hand_in.new.self c.args.value c.hand_in.result c.hand_in.ensures.ok c.hand_in.ensures.err

pub returns-clause-earlier_values : goal.returns-clause-earlier_values
returns-clause-earlier_values g c =
    values_stay g.Key.ArenaKey.keys g.T.PartialEq.eq g.T.Clone.is_clone c.args.self.now c.hand_in.new.self c.args.value c.hand_in.result c.hand_in.ensures.ok c.hand_in.ensures.err
