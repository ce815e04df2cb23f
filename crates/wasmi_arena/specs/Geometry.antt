-- Where a stable vector keeps its items: buckets of doubling size.
use Rattle.std.specs.Prelude.{◌≡◌, ℕ, zero, suc, ◌+◌, ◌-◌, ◌*◌, ◌^◌, ◌<◌, ◌≤◌, Bool, nat_le, if◌then◌else◌}

-- how many slots bucket b has.
-- Bucket 2 has 128.
abbrev pub size : ℕ → ℕ
size b = 32 * 2 ^ b

-- the first index of bucket b: the sum of the sizes of the buckets before it.
-- Of bucket 2: 32 + 64.
abbrev pub start : ℕ → ℕ
start zero = 0
start (suc b) = start b + size b

-- how many buckets a table has, open or not
abbrev pub bucket_count : ℕ
bucket_count = 27

-- how many items these buckets hold together.
-- These are 4,294,967,264.
abbrev pub max_len : ℕ
max_len = start bucket_count

-- the item at an index lies in this slot of this bucket.
-- Index 95 lies in slot 63 of bucket 1.
pub record IsPlace (index bucket slot : ℕ) : Type 0 where
  pub bucket_exists : bucket < bucket_count
  pub slot_exists : slot < size bucket
  pub index_is : start bucket + slot ≡ index

-- b buckets have room for n items, and no fewer have.
-- 33 items have room in 2 buckets, and in no fewer.
pub record IsFewest (n b : ℕ) : Type 0 where
  pub enough : n ≤ start b
  pub least : (c : ℕ) → n ≤ start c → b ≤ c

-- the least of the k numbers from b on that passes, or b + k where none does
abbrev pub least_from : ℕ → ℕ → (ℕ → Bool) → ℕ
least_from b zero passes = b
least_from b (suc k) passes = if passes b then b else least_from (suc b) k passes

-- the fewest buckets with room for n items, for n up to `max_len`: the least b such that n is at
-- most `start b`.
-- Of 96: 2. Of 97: 3. `laws::fewest_is_least` says it of each number.
unfoldable pub fewest : ℕ → ℕ
fewest n = least_from 0 bucket_count (λ b. nat_le n (start b))

-- how many slots the fewest buckets for n items have.
-- For 97 items: 224.
abbrev pub slots : ℕ → ℕ
slots n = start (fewest n)

-- how many of these slots are free.
-- Of 200 items: 24.
abbrev pub room : ℕ → ℕ
room n = slots n - n

-- the bucket of an index: the last of the fewest that hold the items up to it.
-- Of 95: 1.
abbrev pub bucket_of : ℕ → ℕ
bucket_of index = fewest (index + 1) - 1

-- how far behind the start of its bucket an index lies.
-- Of 95: 63.
abbrev pub slot_of : ℕ → ℕ
slot_of index = index - start (bucket_of index)
