use Rattle.std.proofs.Common.{None, arith, sym, ◌∙◌}
use Rattle.wasmi_arena.proofs.LaidOut.{get_or-bucket_at, bucket_at-past}
use Rattle.wasmi_arena.proofs.stable_vec.StableVec.bucket.Goals as goal

pub returns-in_err-get : goal.returns-in_err-get
returns-in_err-get g c =
    let counted = c.self.invariant.buckets_counted in
    let past = c.in_err-get.ensures.lookup in
    rw (c.from_residual.ensures, ← c.self.view_is) (sym (bucket_at-past c.self.invariant c.args.bucket (omega arith)))

pub returns : goal.returns
returns g c =
    let counted = c.self.invariant.buckets_counted in
    let found = c.in_ok-get.ensures.lookup in
    rw (← c.self.view_is) (c.as_ref.ensures.value ∙ (found.3.1 None ∙ get_or-bucket_at c.self.invariant c.args.bucket (omega arith)))
