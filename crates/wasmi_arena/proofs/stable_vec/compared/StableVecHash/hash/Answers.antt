use Rattle.std.proofs.Common.{◌≡◌, length, ap, ◌∙◌}
use Rattle.std.specs.Hash as fed
use Rattle.std.specs.List.{flat_map, fold}
use Rattle.wasmi_arena.proofs.FilledParts.{flat_map-filled_parts}
use Rattle.wasmi_arena.proofs.stable_vec.compared.StableVecHash.hash.Goals as goal

pub returns : goal.returns
returns g c =
    let W = g.H.Hasher.write in
    let F = g.T.Hash.hash_input in
    let none = c.in-None.ensures.steps in
    let items = flat_map-filled_parts c.args.self.now c.slices-items-items.ensures.bound in
    let fed_items = rw (none.0, c.into_iter-items-iterator.ensures.into_iter_gives, c.slices-items-items.ensures.parts, items) at c.loop-items.invariant in
    let len : c.self.inside.len ≡ length c.args.self.now = c.self.invariant.items_counted ∙ ap length c.self.view_is in
    fed_items ∙ ap (λ s. fold W s (flat_map F c.args.self.now)) (c.write_usize.ensures ∙ ap (λ n. fold W c.args.state.now (fed.usize n)) len)
