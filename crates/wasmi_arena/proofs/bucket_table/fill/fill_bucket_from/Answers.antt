use Rattle.std.proofs.Common.{◌≡◌, ◌++◌, Some, None, length, get_or, ◌∙◌, ap, arith, slice_set, length-append}
use Rattle.std.proofs.lemmas.List.{get_or_default}
use Rattle.wasmi_arena.specs.Bucket.{bucket}
use Rattle.wasmi_arena.specs.inner.Table.{bucket_filled}
use Rattle.wasmi_arena.specs.Geometry.{size}
use Rattle.wasmi_arena.proofs.Table.{read_there}
use Rattle.wasmi_arena.proofs.bucket_table.fill.fill_bucket_from.Goals as goal

pub unwrap_mut-requires : goal.unwrap_mut-requires
unwrap_mut-requires g c = rw (get_or_default c.args.buckets.now c.args.place.0 _ None c.requires.in_table) c.requires.open

pub push_from-requires-clause-slot : goal.push_from-requires-clause-slot
push_from-requires-clause-slot g c =
    rw (read_there c.args.buckets.now c.args.place.0 _ _ c.requires.in_table c.unwrap_mut.ensures.value) at c.requires.slot

pub returns-clause-items : goal.returns-clause-items
returns-clause-items g c =
    let buckets = c.args.buckets.now in let b = c.args.place.0 in let came = c.push_from.ensures.items in
    let there = c.unwrap_mut.result.now in
    let read : get_or buckets b None ≡ Some there = read_there buckets b _ _ c.requires.in_table c.unwrap_mut.ensures.value in
    let capacity = c.push_from.ensures.capacity ∙ c.requires.capacity there read in
    let filled : Some c.push_from.new.self ≡ bucket_filled (size b) (get_or buckets b None) came.0 =
    (rw read (ap (λ xs. Some (bucket xs c.push_from.new.self.capacity)) came.1 ∙ ap (λ n. Some (bucket (there.items ++ came.0) n)) capacity)) in (
      came.0,
      ap (λ x. slice_set buckets b x) filled,
      omega (arith, c.push_from.ensures.filled, ap length came.1, length-append there.items came.0),
      came.2,
    )

pub returns-clause-fits : goal.returns-clause-fits
returns-clause-fits g c =
    let read = read_there c.args.buckets.now c.args.place.0 _ _ c.requires.in_table c.unwrap_mut.ensures.value in
    rw (rw read at c.requires.slot, c.push_from.ensures.filled, ← c.requires.capacity c.unwrap_mut.result.now read) c.push_from.ensures.fits
