-- What a contract sees of a stable vector: the list of its items, and from it each bucket.
use Rattle.std.specs.Prelude.{ℕ, List, length, map, take, drop, Option, Some, None, nat_lt, if◌then◌else◌}
use Rattle.std.specs.List.{range_with_len}
use Rattle.wasmi_arena.specs.Bucket.{Bucket}
use Rattle.wasmi_arena.specs.Geometry.{size, start, fewest}

-- the items in bucket b: from `start b` on, the first `size b` of the list
abbrev pub filled_part : {T : Type 0} → List T → ℕ → List T
filled_part items b = take (size b) (drop (start b) items)

-- bucket b of a vector of these items, which is one of the fewest that hold them. The vector has no
-- other bucket.
-- Of 40 items bucket 1 has the last 8, and there is no bucket 2.
abbrev pub bucket_at : {T : Type 0} → List T → ℕ → Option (Bucket T)
bucket_at items b =
    if nat_lt b (fewest (length items))
    then Some record { items = filled_part items b; capacity = size b }
    else None

-- the items bucket by bucket, one list for each of the fewest buckets that hold them.
-- Of 100 items: lists of 32, 64 and 4.
abbrev pub filled_parts : {T : Type 0} → List T → List (List T)
filled_parts items = map (filled_part items) (range_with_len 0 (fewest (length items)))
