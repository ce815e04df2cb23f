-- What a table of buckets is once a `&mut` to a bucket of it, or to an item of one, has ended.
use Rattle.std.specs.Prelude.{ℕ, List, Option, slice_set}
use Rattle.std.specs.Borrow.{Fml, RattleType, MutBor, Array, Lends}
use Rattle.std.specs.declared.alloc.Allocator.{Ghosts}
use Rattle.core.specs.contracts.option.Option as Opt
use Rattle.wasmi_arena.specs.Bucket.{Bucket}
use Rattle.wasmi_arena.specs.inner.Table.{with_item, with_items}
use Rattle.wasmi_arena.specs.contracts.bucket.Bucket.{the_row as bucket_row}
use Rattle.wasmi_arena.specs.contracts.bucket_table.BucketTable.{the_row}

module _ (R A N : RattleType) (alloc : Ghosts A.Denot) where
  -- that bucket is what was written last through the reference, and no other changes
  abbrev pub lends_bucket : MutBor (the_row R A N alloc).Denot → ℕ → MutBor (Option (Bucket R.Denot)) → Fml
  lends_bucket table bucket r = Lends (the_row R A N alloc) (Opt.the_row (bucket_row R A alloc)) table r (λ last. record { buckets = slice_set table.now.buckets bucket last })

module _ (R A : RattleType) (alloc : Ghosts A.Denot) where
  -- the open bucket has in that slot what was written last through the reference
  abbrev pub lends_slot : MutBor (Option (Bucket R.Denot)) → ℕ → MutBor R.Denot → Fml
  lends_slot bucket slot item = Lends (Opt.the_row (bucket_row R A alloc)) R bucket item (λ last. with_item bucket.now slot last)

  -- the bucket has in its filled slots what was written last through the reference
  abbrev pub lends_filled : MutBor (Option (Bucket R.Denot)) → MutBor (List R.Denot) → Fml
  lends_filled bucket items = Lends (Opt.the_row (bucket_row R A alloc)) (Array R 0) bucket items (λ last. with_items bucket.now last)
