use Rattle.std.proofs.Common.{length, sym, ◌∙◌, ap, refl}
use Rattle.wasmi_arena.proofs.Refilled.{length-refill}
use Rattle.wasmi_arena.proofs.FilledParts.{HasBuckets-items, HasBuckets-own}
use Rattle.wasmi_arena.proofs.stable_vec.StableVec.iter_mut.Goals as goal

pub of_whole-requires-clause-buckets : goal.of_whole-requires-clause-buckets
of_whole-requires-clause-buckets g c = HasBuckets-own _ _ c.lend-all.ensures.buckets

pub of_whole-requires-clause-len : goal.of_whole-requires-clause-len
of_whole-requires-clause-len g c = let are = HasBuckets-items _ _ c.lend-all.ensures.buckets in c.self.invariant.items_counted ∙ ap length (c.self.view_is ∙ sym are)

pub returns : goal.returns
returns g c =
    let are = HasBuckets-items _ _ c.lend-all.ensures.buckets in
    ((sym c.of_whole.ensures.loan, λ w. refl), record { writes_back = tt; keeps = length-refill _; items = c.of_whole.ensures.items ∙ are; bound = c.lend-all.ensures.buckets.few_items })
