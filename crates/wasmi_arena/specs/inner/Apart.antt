-- A table of buckets apart from a vector's own. No public clause cites this module.
use Rattle.std.specs.Prelude.{◌≡◌, ℕ, ◌<◌, ◌≤◌, List, [], length, slice_index_or, Option, Some, None}
use Rattle.wasmi_arena.specs.Bucket.{Bucket, bucket}
use Rattle.wasmi_arena.specs.Geometry.{size, bucket_count}

-- each bucket from `first` to before `last` is open, and has no item
pub record AreOpenApart {T : Type 0} (buckets : List (Option (Bucket T))) (first last : ℕ) : Type 0 where
  pub buckets_counted : length buckets ≡ bucket_count
  pub empty : (b : ℕ) → first ≤ b → b < last → slice_index_or buckets b None ≡ Some (bucket [] (size b))
