use Rattle.std.proofs.Common.{[], ◌∷◌, length, set, Some, sym, ap}
use Rattle.wasmi_arena.specs.Bucket.{bucket}
use Rattle.wasmi_arena.proofs.Doubling.{size_allowed}
use Rattle.wasmi_arena.proofs.bucket_table.fill.open_with.Goals as goal

pub open-requires : goal.open-requires
open-requires g c = size_allowed c.args.bucket _ c.requires.exists c.bucket_size-capacity.ensures

pub push-requires-clause-slot : goal.push-requires-clause-slot
push-requires-clause-slot g c = ap (λ b. length b.items) (sym c.in_ok-opened.ensures.items)

pub push-requires-clause-free : goal.push-requires-clause-free
push-requires-clause-free g c =
    rw c.in_ok-opened.ensures.items (size_allowed c.args.bucket _ c.requires.exists c.bucket_size-capacity.ensures).0

pub returns-clause-ok : goal.returns-clause-ok
returns-clause-ok g c =
    rw (c.push.ensures, c.in_ok-opened.ensures.items) (ap (λ n. set c.args.buckets.now c.args.bucket (Some (bucket (c.args.value ∷ []) n))) c.bucket_size-capacity.ensures)
