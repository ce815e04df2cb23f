use Rattle.std.proofs.Common.{arith, take, ap, ◌∙◌, refl, sym, []}
use Rattle.std.proofs.Math.Seq.{take-length}
use Rattle.wasmi_arena.proofs.Taken.{kept_fewer, kept_open}
use Rattle.wasmi_arena.proofs.LaidOut.{all_ahead, open-le_27}
use Rattle.wasmi_arena.proofs.stable_vec.into_iter.StableVecIntoIterator.into_iter.Goals as goal

pub loop-init : goal.loop-init
loop-init g c =
    let all = c.into_iter-buckets.ensures.into_iter_gives.1 in
    record { kept = sym (take-length _); counted = omega (arith, all); within = open-le_27 c.self.invariant }

pub loop-preserved : goal.loop-preserved
loop-preserved g c =
    let kept = kept_fewer _ _ _ _ _ c.next_back-none.ensures.steps (c.loop.invariant.kept, c.loop.invariant.counted) (omega arith) in
    record { kept = kept.0; counted = kept.1; within = omega arith }

pub invariant_of-result : goal.invariant_of-result
invariant_of-result g c =
    let left = kept_open _ c.loop.buckets c.loop.buckets _ (c.loop.invariant.kept, c.loop.invariant.counted) (omega (arith, c.loop.invariant.within)) ∙ ap (take c.self.inside.open_buckets) c.into_iter-buckets.ensures.into_iter_gives.0 in
    rw left (all_ahead c.self.invariant [] [] refl refl).0

pub returns : goal.returns
returns g c =
    let left = kept_open _ c.loop.buckets c.loop.buckets _ (c.loop.invariant.kept, c.loop.invariant.counted) (omega (arith, c.loop.invariant.within)) ∙ ap (take c.self.inside.open_buckets) c.into_iter-buckets.ensures.into_iter_gives.0 in
    record { into_iter_gives = rw (left, ← c.self.view_is) (all_ahead c.self.invariant [] [] refl refl).1 }
