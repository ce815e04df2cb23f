-- What a bucket is once a `&mut` to its items has ended.
use Rattle.std.specs.Prelude.{ℕ, List, length, slice_set}
use Rattle.std.specs.Borrow.{Fml, RattleType, MutBor, Array, Lends}
use Rattle.std.specs.List.{refill}
use Rattle.std.specs.declared.alloc.Allocator.{Ghosts}
use Rattle.wasmi_arena.specs.Bucket.{Bucket, bucket}
use Rattle.wasmi_arena.specs.contracts.bucket.Bucket.{the_row}

module _ (R A : RattleType) (alloc : Ghosts A.Denot) where
  -- its items are what was written last through the reference, and it has as many slots
  abbrev pub lends_items : MutBor (Bucket R.Denot) → MutBor (List R.Denot) → Fml
  lends_items from items =
      Lends (the_row R A alloc) (Array R 0) from items (λ last. bucket (refill (length from.now.items) from.now.items last) from.now.capacity)

  -- the item in that slot is what was written last through the reference
  abbrev pub lends_item : MutBor (Bucket R.Denot) → ℕ → MutBor R.Denot → Fml
  lends_item from slot item = Lends (the_row R A alloc) R from item (λ last. bucket (slice_set from.now.items slot last) from.now.capacity)
