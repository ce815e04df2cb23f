use Rattle.std.proofs.Common.{◌∙◌, ap, get_or}
use Rattle.std.proofs.lemmas.Option.{none-some, slice_get-get_or}
use Rattle.wasmi_collections.specs.Dedup.{in_order, value_numbered}
use Rattle.wasmi_collections.proofs.Dedup.{numbered_at}
use Rattle.wasmi_collections.proofs.arena.dedup.replace.exchange_at_key.Goals as goal

pub unreachable-requires : goal.unreachable-requires
unreachable-requires g c =
    let keys = g.Key.ArenaKey.keys in let index = c.args.index.now.entries in let handed = in_order keys index in
    let n = keys.number c.args.key in
    none-some (get_or handed n c.args.value) (c.in_default.ensures ∙ (ap (value_numbered keys index) c.into_usize-number.ensures.number
    ∙ (numbered_at keys g.met.Key.ArenaKey.key_law handed index c.requires.is.entries_are c.requires.few n c.requires.within ∙ slice_get-get_or handed n c.args.value c.requires.within)))
