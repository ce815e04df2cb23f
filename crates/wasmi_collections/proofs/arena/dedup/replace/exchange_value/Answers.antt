use Rattle.std.proofs.Common.{◌≡◌, ◌∷◌, None, Some, IsPermutation, option_map, subst, ap, ◌∙◌}
use Rattle.wasmi_map_specs.specs.Maps.{value_at, ChangesAt}
use Rattle.wasmi_collections.specs.Dedup.{in_order}
use Rattle.wasmi_collections.proofs.Dedup.{entries-inserted}
use Rattle.wasmi_collections.proofs.DedupReplace.{IsIndex-set}
use Rattle.wasmi_collections.proofs.arena.dedup.replace.exchange_value.Goals as goal

pub returns-clause-ok : goal.returns-clause-ok
returns-clause-ok g c =
    let keys = g.Key.ArenaKey.keys in let eq = g.T.PartialEq.eq in let value = c.args.value in
    let index = c.args.index.now.entries in let mid = c.insert.new.self.entries in let after = c.remove.new.self.entries in
    let n = keys.number c.args.key in
    let none : value_at eq index value ≡ None = c.requires.is.finds value ∙ ap (option_map keys.key) c.requires.absent in
    let enters : ChangesAt eq index value (Some (keys.key n)) mid =
    subst (λ k. ChangesAt eq index value (Some k) mid) c.requires.key_is c.in_ok-insert.ensures.changes in
    let more : IsPermutation ((value, keys.key n) ∷ index) mid =
    subst (λ k. IsPermutation ((value, k) ∷ index) mid) c.requires.key_is
    (entries-inserted eq index mid value c.args.key c.in_ok-insert.field-0 c.in_ok-insert.ensures.old none c.in_ok-insert.ensures.entries) in
    IsIndex-set keys g.met.T.Eq.laws (in_order keys index) c.requires.is.distinct c.args.old.now value n c.requires.there c.requires.absent index mid after
    c.requires.is enters more c.remove.ensures.changes c.remove.ensures.entries
