use Rattle.wasmi_arena.specs.inner.Apart.{AreOpenApart}
use Rattle.wasmi_arena.proofs.bucket_table.fill.open_apart.Given as goal

-- the buckets so far are open
abbrev pub invariant-loop-bucket : goal.invariant-loop-bucket
invariant-loop-bucket g l = AreOpenApart l.buckets l.fn.first l.bucket
