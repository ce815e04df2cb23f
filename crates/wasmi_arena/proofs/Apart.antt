-- Facts on a table of buckets apart from a vector's own.
use Rattle.std.proofs.Common.{◌≡◌, ◌≢◌, ℕ, suc, ◌+◌, ◌-◌, ◌<◌, ◌≤◌, List, [], ◌++◌, length, get_or, set, Option, Some, None, ◌∙◌, ap, subst, inl, inr, refl, sym, add-one, arith}
use Rattle.std.proofs.lemmas.Bool.{cases_lt}
use Rattle.std.proofs.lemmas.List.{get_or-set_other, length-set}
use Rattle.std.proofs.lemmas.Option.{same_Some}
use Rattle.wasmi_arena.specs.Bucket.{Bucket, bucket}
use Rattle.wasmi_arena.specs.Geometry.{size, start, max_len, IsPlace, IsFewest, fewest, room}
use Rattle.wasmi_arena.specs.inner.Table.{items_of, bucket_filled, IsLaidOut}
use Rattle.wasmi_arena.specs.inner.Apart.{AreOpenApart}
use Rattle.wasmi_arena.proofs.Doubling.{size_pos, start_mono, start_below, fewest_is, fewest_is_least, fewest_of_place, place-next}
use Rattle.wasmi_arena.proofs.LaidOut.{place-full, items_of-open_next_with, IsLaidOut-open_next_with}

-- more items need no fewer buckets
pub fewest_mono : (n m : ℕ) → n ≤ m → m ≤ max_len → fewest n ≤ fewest m
fewest_mono n m more small =
    let few = fewest_is_least n (omega arith) in let enough = (fewest_is_least m small).enough in
    few.least (fewest m) (omega arith)

-- with no room, items that fill at most one bucket need one more
module _ (n more : ℕ) (below : n < max_len) (none : room n ≡ 0) (some : 0 < more) (fits : more ≤ size (fewest n)) where
  first_place : IsPlace n (fewest n) 0
  first_place = place-next n (fewest n) (omega arith) refl below (omega arith)

  last_place : IsPlace (n + more - 1) (fewest n) (more - 1)
  last_place = record { bucket_exists = first_place.bucket_exists; slot_exists = omega arith; index_is = omega (arith, first_place.index_is) }

  pub fewest_next : fewest (n + more) ≡ fewest n + 1
  fewest_next =
      let last : n + more - 1 + 1 ≡ n + more = omega arith in
      fewest_is (omega (arith, start_below (fewest n) 27 first_place.bucket_exists, first_place.index_is)) (subst (λ (m : ℕ). IsFewest m (fewest n + 1)) last (fewest_of_place last_place))

  -- and leave no room in it where they fill it
  pub room_next : more ≡ size (fewest n) → room (n + more) ≡ 0
  room_next full = let end : start (fewest (n + more)) ≡ start (suc (fewest n)) = ap start (fewest_next ∙ add-one (fewest n)) in omega (arith, first_place.index_is, full)

-- so there is one
pub next_below : (n : ℕ) → n < max_len → room n ≡ 0 → fewest n < 27
next_below n below none = (first_place n 1 below none (omega arith) (omega (arith, size_pos (fewest n)))).bucket_exists

-- the buckets up to one are the fewest for their slots
pub fewest_start : (b : ℕ) → b ≤ 27 → fewest (start b) ≡ b
fewest_start b small = fewest_is (start_mono b 27 small) (record {
  enough = omega arith;
  least = λ c room. elim (cases_lt c b) [
    | inl less ↦ absurd (omega (arith, start_below c b less, size_pos c))
    | inr more ↦ more
  ];
})

-- so once each free slot is filled there is no room
pub room_filled : (n filled : ℕ) → n ≤ max_len → filled ≡ room n → room (n + filled) ≡ 0
room_filled n filled small all =
    let few = fewest_is_least n small in let enough = few.enough in
    let whole : n + filled ≡ start (fewest n) = omega arith in
    let end : start (fewest (n + filled)) ≡ start (fewest n) = ap start (ap fewest whole ∙ fewest_start (fewest n) (few.least 27 small)) in
    omega arith

module _ {T : Type 0} {buckets : List (Option (Bucket T))} where
  -- the first of the buckets that are open is moved out
  pub apart_moved : (first last : ℕ) → AreOpenApart buckets first last → AreOpenApart (set buckets first None) (first + 1) last
  apart_moved first last before = record {
    buckets_counted = length-set buckets first None ∙ before.buckets_counted;
    empty = λ b from to. get_or-set_other buckets first b None None (λ same. absurd (omega arith)) ∙ before.empty b (omega arith) to;
  }

  -- the buckets between those for n items and those for m
  module _ {n m : ℕ} (all : AreOpenApart buckets (fewest n) (fewest m)) (few : m ≤ max_len) where
    pub apart_later : {later : ℕ} → n ≤ later → later ≤ m → AreOpenApart buckets (fewest later) (fewest m)
    apart_later {later} more within =
        let low = fewest_mono n later more (omega arith) in
        record { buckets_counted = all.buckets_counted; empty = λ b from to. all.empty b (omega arith) to }

    -- where n have no room
    module _ (more : n < m) (none : room n ≡ 0) where
      pub apart_below : fewest n < length buckets
      apart_below = rw all.buckets_counted (next_below n (omega arith) none)

      -- the first of them
      pub apart_first : get_or buckets (fewest n) None ≡ Some (bucket [] (size (fewest n)))
      apart_first = all.empty (fewest n) (omega arith) (omega (arith, fewest_next n 1 (omega arith) none (omega arith) (omega (arith, size_pos (fewest n))), fewest_mono (n + 1) m (omega arith) few))

      pub apart_taken : {b : ℕ} {taken : Bucket T} → b ≡ fewest n → get_or buckets b None ≡ Some taken → taken ≡ bucket [] (size (fewest n))
      apart_taken {b} {taken} is read = same_Some taken (bucket [] (size (fewest n))) (sym read ∙ (ap (λ i. get_or buckets i None) is ∙ apart_first))

      pub apart_rest : (filled : ℕ) → 0 < filled → filled ≤ size (fewest n) → AreOpenApart (set buckets (fewest n) None) (fewest (n + filled)) (fewest m)
      apart_rest filled some fits = rw (fewest_next n filled (omega arith) none some fits) (apart_moved (fewest n) (fewest m) all)

module _ {T : Type 0} {buckets : List (Option (Bucket T))} where
  module _ {open_buckets slots len : ℕ} (v : IsLaidOut buckets open_buckets slots len) (items : List T) (are : items_of buckets ≡ items) where
    pub len_is : len ≡ length items
    len_is = v.items_counted ∙ ap length are

    pub open_is : open_buckets ≡ fewest (length items)
    open_is = v.fewest_open ∙ ap fewest len_is

    -- where it isn't full and has no free slot, it goes on in the next bucket
    module _ (below : length items < max_len) (none : room (length items) ≡ 0) where
      full : slots ≤ len
      full = omega (arith, none, len_is, v.slots_counted, ap start open_is)

      other : len ≢ max_len
      other = λ same. absurd (omega (arith, len_is))

      pub next_exists : open_buckets < 27
      next_exists = (place-full v full other).bucket_exists

      -- which is moved in with its first items
      module _ (next : Bucket T) (some : 0 < length next.items) (fits : length next.items ≤ size (fewest (length items))) (capacity : next.capacity ≡ size (fewest (length items))) where
        next_is : Some next ≡ bucket_filled (size open_buckets) None next.items
        next_is = ap (λ n. Some (bucket next.items n)) (capacity ∙ ap size (sym open_is))

        next_fits : length next.items ≤ size open_buckets
        next_fits = rw open_is fits

        pub items_of-next : items_of (set buckets open_buckets (Some next)) ≡ items ++ next.items
        items_of-next =
            ap (λ (b : Option (Bucket T)). items_of (set buckets open_buckets b)) next_is
            ∙ (items_of-open_next_with v full other next.items some next_fits ∙ ap (λ (xs : List T). xs ++ next.items) are)

        pub IsLaidOut-next : IsLaidOut (set buckets open_buckets (Some next)) (open_buckets + 1) (start (open_buckets + 1)) (len + length next.items)
        IsLaidOut-next =
            subst (λ (b : Option (Bucket T)). IsLaidOut (set buckets open_buckets b) (open_buckets + 1) (start (open_buckets + 1)) (len + length next.items)) (sym next_is)
            (IsLaidOut-open_next_with v full other next.items some next_fits)
