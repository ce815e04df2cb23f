use Rattle.std.proofs.Common.{◌≡◌, ℕ, ◌+◌, ◌-◌, ◌<◌, ◌≤◌, List, [], ◌∷◌, ◌++◌, length, get_or, set, Option, Some, None, ap, arith}
use Rattle.std.proofs.lemmas.List.{get_or_default}
use Rattle.wasmi_arena.specs.Bucket.{Bucket, bucket}
use Rattle.wasmi_arena.specs.Geometry.{size}
use Rattle.wasmi_arena.specs.inner.Table.{items_in}
use Rattle.wasmi_arena.proofs.Table.{read_there}
use Rattle.wasmi_arena.proofs.bucket_table.fill.fill_next.Goals as goal

-- the first free slot is the one behind the filled ones
first_free : {T : Type 0} (buckets : List (Option (Bucket T))) (b free : ℕ) (d : Option (Bucket T)) (there : Bucket T) (capacity : ℕ) → b < length buckets → get_or buckets b d ≡ Some there
    → ((x : Bucket T) → get_or buckets b None ≡ Some x → x.capacity ≡ size b) → length (items_in (get_or buckets b None)) + free ≡ size b → 0 < free → capacity ≡ there.capacity
    → (free ≤ capacity) × (capacity - free ≡ length there.items) × (length there.items < there.capacity)
first_free buckets b free d there capacity inside value slots filled some is =
    let read = read_there buckets b d _ inside value in let all = slots there read in let counted = rw read at filled in (omega arith, omega arith, omega arith)

pub unwrap_mut-open-requires : goal.unwrap_mut-open-requires
unwrap_mut-open-requires g c = rw (get_or_default c.args.buckets.now c.args.bucket _ None c.requires.in_table) c.requires.open

pub overflow_sub-slot : goal.overflow_sub-slot
overflow_sub-slot g c =
    (first_free c.args.buckets.now c.args.bucket c.args.free _ _ _ c.requires.in_table c.unwrap_mut-open.ensures.value c.requires.capacity c.requires.free c.requires.some c.capacity.ensures).0

pub push-requires-clause-slot : goal.push-requires-clause-slot
push-requires-clause-slot g c =
    (first_free c.args.buckets.now c.args.bucket c.args.free _ _ _ c.requires.in_table c.unwrap_mut-open.ensures.value c.requires.capacity c.requires.free c.requires.some c.capacity.ensures).1

pub push-requires-clause-free : goal.push-requires-clause-free
push-requires-clause-free g c =
    (first_free c.args.buckets.now c.args.bucket c.args.free _ _ _ c.requires.in_table c.unwrap_mut-open.ensures.value c.requires.capacity c.requires.free c.requires.some c.capacity.ensures).2

pub returns : goal.returns
returns g c =
    let buckets = c.args.buckets.now in let b = c.args.bucket in let there = c.unwrap_mut-open.result.now in
    let read : get_or buckets b None ≡ Some there = read_there buckets b _ _ c.requires.in_table c.unwrap_mut-open.ensures.value in
    rw (c.push.ensures, read) (ap (λ n. set buckets b (Some (bucket (there.items ++ c.args.value ∷ []) n))) (c.requires.capacity there read))
