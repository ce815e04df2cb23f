use Rattle.std.proofs.Common.{◌≡◌, ◌∙◌, Some, option_map, position, sym, ap}
use Rattle.wasmi_collections.specs.Dedup.{in_order}
use Rattle.wasmi_collections.proofs.Dedup.{position-absent}
use Rattle.wasmi_collections.proofs.DedupReads.{place_of_key}
use Rattle.wasmi_collections.proofs.arena.dedup.replace.number_in.Goals as goal

pub returns-in-Some : goal.returns-in-Some
returns-in-Some g c =
    let keys = g.Key.ArenaKey.keys in let eq = g.T.PartialEq.eq in let handed = in_order keys c.args.index.now.entries in let value = c.args.value.now in
    let found : option_map keys.key (position (eq value) handed) ≡ Some c.in-Some.key.now = sym (c.in-Some.ensures ∙ c.requires.is.finds value) in
    ap Some c.into_usize.ensures.number ∙ sym (place_of_key keys g.met.Key.ArenaKey.key_law eq handed value c.in-Some.key.now c.requires.few found)

pub returns-in-None : goal.returns-in-None
returns-in-None g c =
    let keys = g.Key.ArenaKey.keys in
    sym (position-absent keys g.T.PartialEq.eq (in_order keys c.args.index.now.entries) c.args.index.now.entries c.args.value.now c.requires.is (sym c.in-None.ensures))
