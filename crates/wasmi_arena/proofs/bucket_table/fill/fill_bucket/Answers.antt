use Rattle.std.proofs.Common.{◌≡◌, ◌++◌, Some, None, get_or, ◌∙◌, ap, slice_set}
use Rattle.std.proofs.lemmas.List.{get_or_default}
use Rattle.wasmi_arena.specs.Bucket.{bucket}
use Rattle.wasmi_arena.specs.inner.Table.{bucket_filled}
use Rattle.wasmi_arena.specs.Geometry.{size}
use Rattle.wasmi_arena.proofs.Table.{read_there}
use Rattle.wasmi_arena.proofs.bucket_table.fill.fill_bucket.Goals as goal

pub unwrap_mut-requires : goal.unwrap_mut-requires
unwrap_mut-requires g c = rw (get_or_default c.args.buckets.now c.args.place.0 _ None c.requires.in_table) c.requires.open

pub push_defaults-requires-clause-slot : goal.push_defaults-requires-clause-slot
push_defaults-requires-clause-slot g c =
    rw (read_there c.args.buckets.now c.args.place.0 _ _ c.requires.in_table c.unwrap_mut.ensures.value) at c.requires.slot

pub push_defaults-requires-clause-free : goal.push_defaults-requires-clause-free
push_defaults-requires-clause-free g c =
    rw (c.requires.capacity _ (read_there c.args.buckets.now c.args.place.0 _ _ c.requires.in_table c.unwrap_mut.ensures.value)) c.requires.free

pub returns : goal.returns
returns g c =
    let buckets = c.args.buckets.now in let b = c.args.place.0 in let made = c.push_defaults.ensures.items in
    let there = c.unwrap_mut.result.now in
    let read : get_or buckets b None ≡ Some there = read_there buckets b _ _ c.requires.in_table c.unwrap_mut.ensures.value in
    let capacity = c.push_defaults.ensures.capacity ∙ c.requires.capacity there read in
    let filled : Some c.push_defaults.new.self ≡ bucket_filled (size b) (get_or buckets b None) made.0 =
    (rw read (ap (λ xs. Some (bucket xs c.push_defaults.new.self.capacity)) made.1 ∙ ap (λ n. Some (bucket (there.items ++ made.0) n)) capacity)) in
    (made.0, ap (λ x. slice_set buckets b x) filled, made.2, made.3)
