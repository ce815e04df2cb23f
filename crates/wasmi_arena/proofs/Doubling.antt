-- Facts on buckets of doubling size, and on places in them.
use Rattle.std.proofs.Common.{◌≡◌, ℕ, zero, suc, ◌+◌, ◌-◌, ◌*◌, ◌<◌, ◌≤◌, Bool, true, false, cond, nat_le, refl, ap, ◌∙◌, ◌^◌, subst, inl, inr, add-one, arith, Fits, w64}
use Rattle.std.proofs.Math.Nat.{pow-succ'}
use Rattle.std.proofs.lemmas.Bool.{cases_lt, cases_eq, cases_order, leb-true, leb-false, le-leb}
use Rattle.std.proofs.lemmas.Nat.{pow_pos, pow-add}
use Rattle.std.proofs.Math.Pow.{pow_mono}
use Rattle.std.proofs.Math.Nat.{mul-le-mul_left}
use Rattle.wasmi_arena.specs.Geometry.{size, start, max_len, IsPlace, IsFewest, least_from, fewest, slots, room, bucket_of, slot_of}

-- a bucket has twice the slots of the one before
pub size-suc : (b : ℕ) → size (suc b) ≡ 2 * size b
size-suc b = rw (pow-succ' 2 b) (omega arith)

pub start-size : (b : ℕ) → start b + 32 ≡ size b
start-size zero = refl
start-size (suc b) = omega (arith, start-size b, size-suc b)

pub size_pos : (b : ℕ) → 0 < size b
size_pos b = omega (arith, pow_pos b)

-- the buckets before b end where it begins
pub start_mono : (b c : ℕ) → b ≤ c → start b ≤ start c
start_mono b c h = omega (arith, start-size b, start-size c, mul-le-mul_left 32 (pow_mono h))

pub start_below : (b c : ℕ) → b < c → start b + size b ≤ start c
start_below b c h = start_mono (suc b) c (omega arith)

-- a block has some slots, and not too many
pub size_allowed : (b capacity : ℕ) → b < 27 → capacity ≡ size b → (0 < capacity) × (capacity < 2 ^ 63)
size_allowed b capacity exists is = (omega (arith, is, size_pos b), omega (arith, is, start_below b 27 exists))

-- an index has no other place
pub place_unique : {i b s c t : ℕ} → IsPlace i b s → IsPlace i c t → (b ≡ c) × (s ≡ t)
place_unique {i} {b} {s} {c} {t} p q = elim (cases_order b c) [
  | inl same ↦ (same, let at : start b ≡ start c = ap start same in omega arith)
  | inr apart ↦ elim apart [
    | inl less ↦ absurd (omega (arith, start_below b c less))
    | inr more ↦ absurd (omega (arith, start_below c b more))
  ]
]

-- as many more items as fit behind a place make no index too large
pub place_fits : {i b s : ℕ} → IsPlace i b s → (more : ℕ) → s + more ≤ size b → Fits w64 (i + more)
place_fits {i} {b} {s} p more fits = record { fits = omega (arith, start_below b 27 p.bucket_exists, p.index_is) }

-- an index that has a place is below the limit
pub place-le_max : {i b s : ℕ} → IsPlace i b s → i ≤ max_len
place-le_max {i} {b} {s} p = omega (arith, start_below b 27 p.bucket_exists, p.slot_exists, p.index_is)

-- the fewest are one number
pub fewest_unique : {n b c : ℕ} → IsFewest n b → IsFewest n c → b ≡ c
fewest_unique {n} {b} {c} p q = let up = p.least c q.enough in let down = q.least b p.enough in omega arith

-- what the fewest buckets have room for begins before the last of them ends, and no sooner
pub below_of_start : (b c n : ℕ) → start b < n → n ≤ start c → b < c
below_of_start b c n low high = elim (cases_lt b c) [
  | inl less ↦ less
  | inr more ↦ absurd (omega (arith, start_mono c b more))
]

-- no item needs no bucket
pub fewest_of_none : IsFewest 0 0
fewest_of_none = record { enough = omega arith; least = λ c h. omega arith }

-- the bucket of an index is the last of the fewest that hold the items up to it
pub fewest_of_place : {i b s : ℕ} → IsPlace i b s → IsFewest (i + 1) (b + 1)
fewest_of_place {i} {b} {s} p = record {
  enough = rw (add-one b) (omega arith);
  least = λ c h. let above : b < c = below_of_start b c (i + 1) (omega arith) h in omega arith;
}

-- the items before an index need the buckets before its own, and its own where they don't end there
pub fewest_before_first : {i b : ℕ} → IsPlace i b 0 → IsFewest i b
fewest_before_first {i} {b} p = record {
  enough = omega arith;
  least = λ c h. elim (cases_lt c b) [
    | inl less ↦ absurd (omega (arith, start_below c b less, size_pos c))
    | inr more ↦ more
  ];
}

pub fewest_before_other : {i b s : ℕ} → IsPlace i b s → 0 < s → IsFewest i (b + 1)
fewest_before_other {i} {b} {s} p some = record {
  enough = rw (add-one b) (omega arith);
  least = λ c h. let above : b < c = below_of_start b c i (omega arith) h in omega arith;
}

module _ (passes : ℕ → Bool) where
  -- each number before the least one fails
  least_from-fails : (b k c : ℕ) → b ≤ c → c < least_from b k passes → passes c ≡ false
  least_from-fails b zero c low high = absurd (omega arith)
  least_from-fails b (suc k) c low high =
      (elim (passes b) as (λ v. passes b ≡ v → c < cond v b (least_from (suc b) k passes) → passes c ≡ false) [
        | true ↦ λ here below. absurd (omega arith)
        | false ↦ λ here below. elim (cases_eq b c) [
          | inl same ↦ subst (λ (d : ℕ). passes d ≡ false) same here
          | inr other ↦ least_from-fails (suc b) k c (omega arith) below
        ]
      ]) refl high

  -- the least one passes, where the number after the k does
  least_from-passes : (b k c : ℕ) → c ≡ b + k → passes c ≡ true → passes (least_from b k passes) ≡ true
  least_from-passes b zero c last there = let same : c ≡ b = omega arith in subst (λ (d : ℕ). passes d ≡ true) same there
  least_from-passes b (suc k) c last there =
      (elim (passes b) as (λ v. passes b ≡ v → passes (cond v b (least_from (suc b) k passes)) ≡ true) [
        | true ↦ λ here. here
        | false ↦ λ here. least_from-passes (suc b) k c (omega arith) there
      ]) refl

least_is : (n k : ℕ) → n ≤ start k → IsFewest n (least_from 0 k (λ b. nat_le n (start b)))
least_is n k h =
    let passes = λ (b : ℕ). nat_le n (start b) in
    let found = least_from 0 k passes in
    record {
      enough = leb-true n (start found) (least_from-passes passes 0 k k (omega arith) (le-leb n (start k) h));
      least = λ c room. elim (cases_lt c found) [
        | inl less ↦ absurd (let below = leb-false n (start c) (least_from-fails passes 0 k c (omega arith) less) in omega arith)
        | inr more ↦ more
      ];
    }

-- `fewest` is the least number of buckets with room
pub fewest_is_least : (n : ℕ) → n ≤ max_len → IsFewest n (fewest n)
unfolding fewest
fewest_is_least n small = least_is n 27 small

-- it is what has the law of the fewest
pub fewest_is : {n b : ℕ} → n ≤ max_len → IsFewest n b → fewest n ≡ b
fewest_is {n} {b} small few = fewest_unique (fewest_is_least n small) few

-- one more item lowers the room by one at the most
pub room-add-one : (n : ℕ) → n < max_len → room n ≤ room (n + 1) + 1
room-add-one n below =
    let here = fewest_is_least n (omega arith) in
    let next = fewest_is_least (n + 1) (omega arith) in
    let no_fewer : fewest n ≤ fewest (n + 1) = here.least (fewest (n + 1)) (let enough = next.enough in omega arith) in
    omega (arith, start_mono (fewest n) (fewest (n + 1)) no_fewer)

-- and by one, where there is any
pub room-falls : (n : ℕ) → n < max_len → 0 < room n → room n ≡ room (n + 1) + 1
room-falls n below some =
    let here = fewest_is_least n (omega arith) in
    let same : fewest (n + 1) ≡ fewest n = fewest_is (omega arith) (record { enough = omega arith; least = λ c fits. here.least c (omega arith) }) in
    omega (arith, ap start same)

-- each index below `max_len` has a place
pub place_of : (i : ℕ) → i < max_len → IsPlace i (bucket_of i) (slot_of i)
place_of i below =
    let few = fewest_is_least (i + 1) (omega arith) in
    let b = bucket_of i in
    let some : 0 < fewest (i + 1) = below_of_start 0 (fewest (i + 1)) (i + 1) (omega arith) few.enough in
    let last : fewest (i + 1) ≡ suc b = omega arith in
    let end : start (fewest (i + 1)) ≡ start (suc b) = ap start last in
    let begun : start b ≤ i = elim (cases_lt i (start b)) [
      | inl early ↦ absurd (let fewer = few.least b (omega arith) in omega arith)
      | inr late ↦ late
    ] in
    let within : fewest (i + 1) ≤ 27 = few.least 27 (omega arith) in
    let enough = few.enough in
    record { bucket_exists = omega arith; slot_exists = omega arith; index_is = omega arith }

-- and it is named by `bucket_of` and `slot_of`
pub place_names : {i b s : ℕ} → IsPlace i b s → (b ≡ bucket_of i) × (s ≡ slot_of i)
place_names {i} {b} {s} place = place_unique place (place_of i (omega (arith, start_below b 27 place.bucket_exists, place.slot_exists, place.index_is)))

-- the top bit of an index and 32 tells its place
module _ (i m : ℕ) (low : 2 ^ m ≤ i + 32) (high : i + 32 < 2 * 2 ^ m) (below : i < max_len) where
  pub top_from_5 : 5 ≤ m
  top_from_5 = elim (cases_lt m 5) [
    | inl few ↦ absurd (let least : m ≤ 4 = omega arith in let small : 2 ^ m ≤ 2 ^ 4 = pow_mono {i = m} {j = 4} least in omega arith)
    | inr many ↦ many
  ]

  pub top_below_32 : m < 32
  top_below_32 = elim (cases_lt m 32) [
    | inl few ↦ few
    | inr many ↦ absurd (let large : 2 ^ 32 ≤ 2 ^ m = pow_mono {i = 32} {j = m} many in omega arith)
  ]

  pub place_of_top : IsPlace i (m - 5) (i + 32 - 2 ^ m)
  place_of_top =
      let five = top_from_5 in
      let few = top_below_32 in
      let power : 2 ^ m ≡ 2 ^ 5 * 2 ^ (m - 5) = ap (λ n. 2 ^ n) (let whole : m ≡ 5 + (m - 5) = omega arith in whole) ∙ pow-add 2 5 (m - 5) in
      record { bucket_exists = omega arith; slot_exists = omega arith; index_is = omega (arith, start-size (m - 5)) }

-- each slot of the 27 buckets is the place of an index below `max_len`
pub place_of_slot : (b s : ℕ) → b < 27 → s < size b → IsPlace (start b + s) b s × (start b + s < max_len)
place_of_slot b s below slot = (record { bucket_exists = below; slot_exists = slot; index_is = refl }, omega (arith, start_below b 27 below))

pub slots-zero : slots 0 ≡ 0
slots-zero = ap start (fewest_is {n = 0} {b = 0} (omega arith) fewest_of_none)

-- the slots are at most twice the items, and 30
pub slots-le : (n : ℕ) → 0 < n → n ≤ max_len → slots n ≤ 2 * n + 30
slots-le n some small =
    let few = fewest_is_least n small in
    let b = fewest n - 1 in
    let one : 0 < fewest n = below_of_start 0 (fewest n) n (omega arith) few.enough in
    let last : fewest n ≡ suc b = omega arith in
    let end : start (fewest n) ≡ start (suc b) = ap start last in
    let begun : start b < n = elim (cases_lt (start b) n) [
      | inl early ↦ early
      | inr late ↦ absurd (let fewer = few.least b late in omega arith)
    ] in
    omega (arith, start-size b)

-- also where there are none
pub slots-few : (n : ℕ) → n ≤ max_len → slots n ≤ 2 * n + 30
slots-few zero small = omega (arith, slots-zero)
slots-few (suc n) small = slots-le (suc n) (omega arith) small

-- where the fewest buckets for n items are open, the place of the next item
module _ (n b : ℕ) (small : n ≤ max_len) (open_is : b ≡ fewest n) where
  open_few : IsFewest n b
  open_few = rw open_is (fewest_is_least n small)

  -- a slot is free: it is in the last of them
  pub start-last : n < start b → start (b - 1) ≤ n
  start-last free = elim (cases_lt n (start (b - 1))) [
    | inl early ↦ absurd (let fewer = open_few.least (b - 1) (omega arith) in let some = below_of_start 0 b (n + 1) (omega arith) (omega arith) in omega arith)
    | inr late ↦ late
  ]

  pub place-last : n < start b → IsPlace n (b - 1) (n - start (b - 1))
  place-last free =
      let some = below_of_start 0 b (n + 1) (omega arith) (omega arith) in
      let last : b ≡ suc (b - 1) = omega arith in
      let end : start b ≡ start (suc (b - 1)) = ap start last in
      let within : b ≤ 27 = open_few.least 27 small in
      let begun = start-last free in
      record { bucket_exists = omega arith; slot_exists = omega arith; index_is = omega arith }

  -- none is: it is the first slot of the next bucket
  pub place-next : n < max_len → start b ≤ n → IsPlace n b 0
  place-next below full =
      let enough = open_few.enough in
      record { bucket_exists = below_of_start b 27 (n + 1) (omega arith) (omega arith); slot_exists = size_pos b; index_is = omega arith }

-- no more than all
pub fewest-le : (n : ℕ) → n ≤ max_len → fewest n ≤ 27
fewest-le n small = (fewest_is_least n small).least 27 small
