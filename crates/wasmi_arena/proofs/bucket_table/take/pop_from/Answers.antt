use Rattle.std.proofs.Common.{◌≡◌, ℕ, zero, suc, ◌+◌, length, take, get_or, set, Option, Some, None, refl, sym, ap, ◌∙◌, arith}
use Rattle.std.proofs.lemmas.List.{get_or_default}
use Rattle.std.specs.Prelude.{IsSome}
use Rattle.wasmi_arena.specs.Bucket.{Bucket, bucket}
use Rattle.wasmi_arena.specs.inner.Table.{items_in, bucket_cut}
use Rattle.wasmi_arena.proofs.Table.{read_there}
use Rattle.wasmi_arena.proofs.bucket_table.take.pop_from.Goals as goal

module _ {T : Type 0} where
  -- a bucket with an item is open
  open_with_items : (found : Option (Bucket T)) (slot : ℕ) → length (items_in found) ≡ slot + 1 → IsSome found
  open_with_items None slot last = absurd (omega arith)
  open_with_items (Some there) slot last = refl

  -- where the last item isn't the only one, the bucket stays open
  cut_open : {found : Option (Bucket T)} {there : Bucket T} (slot : ℕ) → found ≡ Some there → (slot ≡ 0 → ⊥) → Some (bucket (take slot there.items) there.capacity) ≡ bucket_cut found slot
  cut_open zero read more = absurd (more refl)
  cut_open (suc slot) read more = sym (ap (λ x. bucket_cut x (suc slot)) read)

pub take_bucket-emptied-requires-clause-in_table : goal.take_bucket-emptied-requires-clause-in_table
take_bucket-emptied-requires-clause-in_table g c = c.requires.in_table

pub take_bucket-emptied-requires-clause-open : goal.take_bucket-emptied-requires-clause-open
take_bucket-emptied-requires-clause-open g c = open_with_items _ _ c.requires.last

pub pop-requires : goal.pop-requires
pop-requires g c = rw c.take_bucket-emptied.ensures.taken at c.requires.last ∙ ap (λ n. n + 1) c.if-place-eq0.true

pub returns-then-place-eq0-clause-bucket : goal.returns-then-place-eq0-clause-bucket
returns-then-place-eq0-clause-bucket g c = rw (c.take_bucket-emptied.ensures.rest, c.take_bucket-emptied.ensures.taken, c.if-place-eq0.true) refl

pub returns-then-place-eq0-clause-item : goal.returns-then-place-eq0-clause-item
returns-then-place-eq0-clause-item g c = rw (c.take_bucket-emptied.ensures.taken, c.if-place-eq0.true) c.pop.ensures.item

pub unwrap_mut-requires : goal.unwrap_mut-requires
unwrap_mut-requires g c =
    rw (get_or_default c.args.buckets.now c.args.place.0 _ None c.requires.in_table) (open_with_items _ _ c.requires.last)

pub pop-requires-else-place-eq0 : goal.pop-requires-else-place-eq0
pop-requires-else-place-eq0 g c =
    rw (read_there c.args.buckets.now c.args.place.0 _ _ c.requires.in_table c.unwrap_mut.ensures.value) at c.requires.last

pub returns-else-place-eq0-clause-bucket : goal.returns-else-place-eq0-clause-bucket
returns-else-place-eq0-clause-bucket g c =
    let buckets = c.args.buckets.now in let b = c.args.place.0 in
    let read : get_or buckets b None ≡ Some c.unwrap_mut.result.now = read_there buckets b _ _ c.requires.in_table c.unwrap_mut.ensures.value in
    ap (λ x. set buckets b x) (ap (λ x. Some x) c.pop-else-place-eq0.ensures.rest ∙ cut_open c.args.place.1 read c.if-place-eq0.false)

pub returns-else-place-eq0-clause-item : goal.returns-else-place-eq0-clause-item
returns-else-place-eq0-clause-item g c =
    rw (read_there c.args.buckets.now c.args.place.0 _ _ c.requires.in_table c.unwrap_mut.ensures.value) c.pop-else-place-eq0.ensures.item
