use Rattle.std.proofs.Common.{ap, ◌∙◌, arith, length}
use Rattle.std.proofs.lemmas.Bool.{false≢true}
use Rattle.wasmi_arena.specs.Bucket.{Bucket}
use Rattle.wasmi_arena.specs.Geometry.{size}
use Rattle.wasmi_arena.proofs.Cloned.{cloned_none, cloned_next, cloned_all, part_some, part_bucket, part_size, part_fits, part_appended, part_all}
use Rattle.wasmi_arena.proofs.Sizes.{array_small}
use Rattle.wasmi_arena.proofs.Results.{err_returned}
use Rattle.wasmi_arena.proofs.stable_vec.StableVec.clone_in.Goals as goal

pub loop-part-init : goal.loop-part-init
loop-part-init g c =
    rw (c.into_iter-part-iterator.ensures.into_iter_gives, c.slices-part-items.ensures.parts, c.new-made.ensures) (cloned_none g.T.Clone.is_clone c.args.self.now c.slices-part-items.ensures.bound)

pub bucket_size-capacity-requires : goal.bucket_size-capacity-requires
bucket_size-capacity-requires g c = rw c.open_buckets.ensures (part_bucket c.loop-part.invariant c.in-Some.ensures.steps)

pub open-requires : goal.open-requires
open-requires g c = part_size c.loop-part.invariant c.in-Some.ensures.steps _ (c.bucket_size-capacity.ensures ∙ ap size c.open_buckets.ensures)

pub returns-in_err-next-clause-without_size : goal.returns-in_err-next-clause-without_size
returns-in_err-next-clause-without_size g c = λ none items alloc. absurd (false≢true (c.in_err-next.ensures.without_size none))

pub push_clones-requires-clause-free : goal.push_clones-requires-clause-free
push_clones-requires-clause-free g c =
    rw (c.in_ok-next.ensures.items, c.bucket_size-capacity.ensures, c.open_buckets.ensures) (part_fits c.loop-part.invariant c.in-Some.ensures.steps)

pub returns-in_err-push_clones-clause-without_size : goal.returns-in_err-push_clones-clause-without_size
returns-in_err-push_clones-clause-without_size g c = λ none items alloc.
    absurd (false≢true (c.in_err-push_clones.ensures.infallible (part_all c.loop-part.invariant c.in-Some.ensures.steps g.T.Clone.is_infallible items)))

pub append_bucket-requires : goal.append_bucket-requires
append_bucket-requires g c =
    let capacity = c.in_ok-push_clones.ensures.capacity ∙ (ap (λ (b : Bucket _). b.capacity) c.in_ok-next.ensures.items ∙ (c.bucket_size-capacity.ensures ∙ ap size c.open_buckets.ensures)) in
    let fits = part_appended c.loop-part.invariant c.in-Some.ensures.steps _ c.in_ok-push_clones.ensures.items in
    (assumption, (fits.0, (fits.1, (fits.2, (fits.3, (fits.4, capacity))))))

pub loop-part-preserved : goal.loop-part-preserved
loop-part-preserved g c = rw c.append_bucket.ensures (cloned_next c.loop-part.invariant c.in-Some.ensures.steps _ c.in_ok-push_clones.ensures.items)

pub array_drop-made-inside-requires : goal.array_drop-made-inside-requires
array_drop-made-inside-requires g c = array_small g.row.T g.row.B g.B.Allocator assumption

pub array_drop-made-inside-requires-in_err-next : goal.array_drop-made-inside-requires-in_err-next
array_drop-made-inside-requires-in_err-next g c = array_small g.row.T g.row.B g.B.Allocator assumption

pub array_drop-made-inside-requires-in_err-push_clones : goal.array_drop-made-inside-requires-in_err-push_clones
array_drop-made-inside-requires-in_err-push_clones g c = array_small g.row.T g.row.B g.B.Allocator assumption

pub returns-in_err-clone-clause-items : goal.returns-in_err-clone-clause-items
returns-in_err-clone-clause-items g c = rw (err_returned _ c.from_residual.ensures.1) tt

pub returns-in_err-clone-clause-empty : goal.returns-in_err-clone-clause-empty
returns-in_err-clone-clause-empty g c = λ none. absurd (part_some c.loop-part.invariant c.in-Some.ensures.steps none)

pub returns-in_err-next-clause-items : goal.returns-in_err-next-clause-items
returns-in_err-next-clause-items g c = rw (err_returned _ c.from_residual-in_err-next.ensures.1) tt

pub returns-in_err-next-clause-empty : goal.returns-in_err-next-clause-empty
returns-in_err-next-clause-empty g c = λ none. absurd (part_some c.loop-part.invariant c.in-Some.ensures.steps none)

pub returns-in_err-push_clones-clause-items : goal.returns-in_err-push_clones-clause-items
returns-in_err-push_clones-clause-items g c = rw (err_returned _ c.from_residual-in_err-push_clones.ensures.1) tt

pub returns-in_err-push_clones-clause-empty : goal.returns-in_err-push_clones-clause-empty
returns-in_err-push_clones-clause-empty g c = λ none. absurd (part_some c.loop-part.invariant c.in-Some.ensures.steps none)

pub returns-in_err-clone-clause-without_size : goal.returns-in_err-clone-clause-without_size
returns-in_err-clone-clause-without_size g c = λ none items infallible. absurd (c.in_err-clone.ensures.cases (infallible _))

pub push_clones-requires-clause-empty : goal.push_clones-requires-clause-empty
push_clones-requires-clause-empty g c = ap (λ (b : Bucket _). b.items) c.in_ok-next.ensures.items

pub loop-part-smaller : goal.loop-part-smaller
loop-part-smaller g c = omega (arith, ap length c.in-Some.ensures.steps)

pub returns-clause-items : goal.returns-clause-items
returns-clause-items g c = cloned_all g.T.Clone.is_clone c.loop-part.invariant c.in-None.ensures.steps.0
