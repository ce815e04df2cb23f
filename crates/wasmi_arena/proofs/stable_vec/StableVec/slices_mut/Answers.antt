use Rattle.std.proofs.Common.{length, sym, ◌∙◌, ap, refl}
use Rattle.wasmi_arena.specs.Geometry.{fewest}
use Rattle.wasmi_arena.specs.StableVec.{filled_parts}
use Rattle.wasmi_arena.proofs.Refilled.{length-refill}
use Rattle.wasmi_arena.proofs.FilledParts.{HasBuckets-items, HasBuckets-own}
use Rattle.wasmi_arena.proofs.stable_vec.StableVec.slices_mut.Goals as goal

pub of_open-requires-clause-buckets : goal.of_open-requires-clause-buckets
of_open-requires-clause-buckets g c = HasBuckets-own _ _ c.lend-all.ensures.buckets

pub of_open-requires-clause-open : goal.of_open-requires-clause-open
of_open-requires-clause-open g c =
    let are = HasBuckets-items _ _ c.lend-all.ensures.buckets in c.self.invariant.fewest_open ∙ ap fewest (c.self.invariant.items_counted ∙ ap length (c.self.view_is ∙ sym are))

pub returns : goal.returns
returns g c =
    let are = HasBuckets-items _ _ c.lend-all.ensures.buckets in
    ((sym c.of_open.ensures.loan, λ w. refl), record { writes_back = tt; keeps = length-refill _; parts = c.of_open.ensures.parts ∙ ap filled_parts are; bound = c.lend-all.ensures.buckets.few_items })
