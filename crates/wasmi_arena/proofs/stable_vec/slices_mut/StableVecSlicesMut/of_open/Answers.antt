use Rattle.std.proofs.Common.{◌∙◌}
use Rattle.wasmi_arena.proofs.FilledParts.{HasBuckets-open, parts_lent}
use Rattle.wasmi_arena.proofs.stable_vec.slices_mut.StableVecSlicesMut.of_open.Goals as goal

pub cut-open-requires : goal.cut-open-requires
cut-open-requires g c = rw c.requires.open (HasBuckets-open _ _ c.requires.buckets)

pub invariant_of-result : goal.invariant_of-result
invariant_of-result g c =
    let cut = c.cut-open.ensures in (cut.counted, (parts_lent _ _ c.requires.buckets cut.buckets (cut.counted ∙ c.requires.open)).0)

pub returns-clause-parts : goal.returns-clause-parts
returns-clause-parts g c = let cut = c.cut-open.ensures in (parts_lent _ _ c.requires.buckets cut.buckets (cut.counted ∙ c.requires.open)).1
