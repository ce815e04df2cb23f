-- How a stable vector lays out its items: in a table of buckets, each open or not.
use Rattle.std.specs.Prelude.{◌≡◌, ℕ, zero, suc, ◌*◌, ◌<◌, ◌≤◌, List, [], ◌∷◌, ◌++◌, length, take, drop, slice_set, slice_index_or, Option, Some, None}
use Rattle.std.specs.List.{refill}
use Rattle.wasmi_arena.specs.Geometry.{size, start, bucket_count, max_len, fewest}
use Rattle.wasmi_arena.specs.Bucket.{Bucket}

module _ {T : Type 0} where
  -- the items of a table, one bucket after another
  abbrev pub items_of : List (Option (Bucket T)) → List T
  items_of [] = []
  items_of (None ∷ buckets) = items_of buckets
  items_of (Some bucket ∷ buckets) = bucket.items ++ items_of buckets

  -- the items of one bucket: none where it isn't open
  abbrev pub items_in : Option (Bucket T) → List T
  items_in None = []
  items_in (Some bucket) = bucket.items

  -- a bucket of so many slots after more items at its end
  abbrev pub bucket_filled : ℕ → Option (Bucket T) → List T → Option (Bucket T)
  bucket_filled capacity bucket items =
      Some record { items = items_in bucket ++ items; capacity = capacity }

  -- so many items went to the end of bucket b, of which `P` holds
  abbrev pub FillsBucket : (List T → Type 0) → ℕ → ℕ → List (Option (Bucket T)) → List (Option (Bucket T)) → Type 0
  FillsBucket P amount b old new =
      (more : List T) × (new ≡ slice_set old b (bucket_filled (size b) (slice_index_or old b None) more))
      × (length more ≡ amount) × P more

  -- a bucket of so many slots after one more item at its end
  abbrev pub bucket_with : ℕ → Option (Bucket T) → T → Option (Bucket T)
  bucket_with capacity bucket item = bucket_filled capacity bucket (item ∷ [])

  -- a bucket that keeps the items before a slot, and is closed where there are none
  abbrev pub bucket_cut : Option (Bucket T) → ℕ → Option (Bucket T)
  bucket_cut None slot = None
  bucket_cut (Some bucket) zero = None
  bucket_cut (Some bucket) (suc slot) =
      Some record { items = take (suc slot) bucket.items; capacity = bucket.capacity }

  -- a bucket with another item in a filled slot
  abbrev pub with_item : Option (Bucket T) → ℕ → T → Option (Bucket T)
  with_item None slot item = None
  with_item (Some bucket) slot item =
      Some record { items = slice_set bucket.items slot item; capacity = bucket.capacity }

  -- a table with another item in a filled slot of bucket b
  abbrev pub write : List (Option (Bucket T)) → ℕ → ℕ → T → List (Option (Bucket T))
  write buckets b slot item = slice_set buckets b (with_item (slice_index_or buckets b None) slot item)

  -- a bucket with these items in its filled slots, and its own where they are too few
  abbrev pub with_items : Option (Bucket T) → List T → Option (Bucket T)
  with_items None items = None
  with_items (Some bucket) items =
      Some record { items = refill (length bucket.items) bucket.items items; capacity = bucket.capacity }

  -- a table with these items in the filled slots of bucket b
  abbrev pub write_all : List (Option (Bucket T)) → ℕ → List T → List (Option (Bucket T))
  write_all buckets b items = slice_set buckets b (with_items (slice_index_or buckets b None) items)

  -- the same buckets with these items in their filled slots, from the first to the last
  abbrev pub refilled : List (Option (Bucket T)) → List T → List (Option (Bucket T))
  refilled [] items = []
  refilled (bucket ∷ buckets) items =
      with_items bucket items ∷ refilled buckets (drop (length (items_in bucket)) items)

  -- the bucket of `width` slots that holds the first of these items, and isn't open where there are
  -- none
  abbrev pub bucket_from : ℕ → List T → Option (Bucket T)
  bucket_from width [] = None
  bucket_from width (x ∷ xs) = Some record { items = take width (x ∷ xs); capacity = width }

  -- the table holds these items: its first bucket has `width` slots, each next one twice as many
  abbrev pub IsTable : ℕ → List T → List (Option (Bucket T)) → Type 0
  IsTable width items [] = items ≡ []
  IsTable width items (bucket ∷ buckets) =
      (bucket ≡ bucket_from width items) × IsTable (2 * width) (drop width items) buckets

  -- each bucket is open and has an item
  abbrev pub AreFilled : List (Option (Bucket T)) → Type 0
  AreFilled [] = Unit {0}
  AreFilled (None ∷ buckets) = ⊥
  AreFilled (Some bucket ∷ buckets) = (0 < length bucket.items) × AreFilled buckets

  -- the fields of a stable vector agree
  pub record IsLaidOut (buckets : List (Option (Bucket T))) (open_buckets slots len : ℕ) : Type 0 where
    pub buckets_counted : length buckets ≡ bucket_count
    pub table : IsTable 32 (items_of buckets) buckets
    pub items_counted : len ≡ length (items_of buckets)
    pub few_items : len ≤ max_len
    pub fewest_open : open_buckets ≡ fewest len
    pub slots_counted : slots ≡ start open_buckets

  -- a stable vector of these items has these buckets
  pub record HasBuckets (items : List T) (buckets : List (Option (Bucket T))) : Type 0 where
    pub counted : length buckets ≡ bucket_count
    pub table : IsTable 32 items buckets
    pub few_items : length items ≤ max_len
