-- Facts on an iterator that takes the items out of a vector, bucket by bucket.
use Rattle.std.proofs.Common.{◌≡◌, ℕ, ◌+◌, ◌-◌, ◌<◌, ◌≤◌, List, [], ◌∷◌, ◌++◌, length, take, Option, Some, None, sym, ◌∙◌, ap, arith, length-append, append-nil}
use Rattle.std.proofs.Math.Seq.{take-append_seam}
use Rattle.std.proofs.lemmas.List.{nil_from_length, take-take}
use Rattle.std.specs.Array.Iter.{array_into_iter_items, array_steps_back}
use Rattle.core.specs.declared.array.slots.IntoIter.{IntoIter}
use Rattle.std.specs.Iterator.{YieldsFirst, YieldsLast}
use Rattle.wasmi_arena.specs.Bucket.{Bucket}
use Rattle.wasmi_arena.specs.inner.Table.{items_of}
use Rattle.wasmi_arena.specs.inner.Ahead.{IsAhead}
use Rattle.wasmi_arena.proofs.Table.{first_filled, first_items, first_ahead, first_counted, last_filled, last_items, last_counted, last_ahead}

module _ {T : Type 0} where
  -- the list itself is what is left
  abbrev pub all_left : List T → List T
  all_left items = items

  -- a call from the front leaves no more than there was
  pub fewer_first : (items left : List T) (r : Option T) → YieldsFirst all_left items r left → length left ≤ length items
  fewer_first items left None ended = omega (arith, ap length ended.1)
  fewer_first items left (Some x) at = omega (arith, ap length at)

  -- and so does one from the back
  pub fewer_last : (items left : List T) (r : Option T) → YieldsLast all_left items r left → length left ≤ length items
  fewer_last items left None ended = omega (arith, ap length ended.1)
  fewer_last items left (Some x) at = omega (arith, ap length at, length-append left (x ∷ []))

  module _ {front back : List T} {buckets : List (Option (Bucket T))} (rest : List (Option (Bucket T))) {found : Option (Bucket T)} {bucket : Bucket T} (is : Some bucket ≡ found) {between : ℕ} (it : IsAhead front buckets back between) {items : List T} (whole : items ≡ bucket.items) where
    -- the first bucket is entered
    module _ (first : buckets ≡ found ∷ rest) where
      pub first_taken : (left : List T) (r : Option T) → YieldsFirst all_left items r left → front ≡ [] → YieldsFirst all_left (front ++ items_of buckets ++ back) r (left ++ items_of rest ++ back)
      first_taken left None ended none =
          let some = (first_filled it first is).0 in
          absurd (omega (arith, ap length whole, ap length ended.0))
      first_taken left (Some x) at none = first_items it first is (ap length none) left x (sym whole ∙ at)

      pub first_taken_ahead : {left : List T} (r : Option T) → YieldsFirst all_left items r left → (count : ℕ) → count ≡ length items → IsAhead left rest back (between - count)
      first_taken_ahead {left} r step count counted = first_ahead it first is left count (counted ∙ ap length whole) (omega (arith, fewer_first items left r step))

      pub first_taken_counted : length items ≤ between
      first_taken_counted = let counted = first_counted it first is in omega (arith, ap length whole)

    -- the last bucket is entered
    module _ (last : buckets ≡ rest ++ found ∷ []) where
      pub last_taken : (left : List T) (r : Option T) → YieldsLast all_left items r left → back ≡ [] → YieldsLast all_left (front ++ items_of buckets ++ back) r (front ++ items_of rest ++ left)
      last_taken left None ended none =
          let some = (last_filled rest it last is).0 in
          absurd (omega (arith, ap length whole, ap length ended.0))
      last_taken left (Some x) at none = last_items rest it last is (ap length none) left x (sym whole ∙ at)

      pub last_taken_counted : length items ≤ between
      last_taken_counted = let counted = last_counted rest it last is in omega (arith, ap length whole)

      pub last_taken_ahead : {left : List T} (r : Option T) → YieldsLast all_left items r left → (count : ℕ) → count ≡ length items → IsAhead front rest left (between - count)
      last_taken_ahead {left} r step count counted = last_ahead rest it last is left count (counted ∙ ap length whole) (omega (arith, fewer_last items left r step))

  -- no bucket is left, and the other end is called
  module _ {front back kept : List T} (left : List T) {buckets : List (Option (Bucket T))} (rest : List (Option (Bucket T))) {between : ℕ} (it : IsAhead front buckets back between) (same : rest ≡ buckets) where
    pub taken_behind : (r : Option T) → front ≡ [] → kept ≡ [] → length buckets ≡ 0 → YieldsFirst all_left back r left → YieldsFirst all_left (front ++ items_of buckets ++ back) r (kept ++ items_of rest ++ left)
    taken_behind None none still no_buckets ended = rw (same, none, still, nil_from_length buckets no_buckets) ended
    taken_behind (Some x) none still no_buckets at = rw (same, none, still, nil_from_length buckets no_buckets) at

    pub taken_behind_ahead : (r : Option T) → kept ≡ [] → YieldsFirst all_left back r left → IsAhead kept rest left between
    taken_behind_ahead r still step =
        let few = it.few in
        record { filled = rw same it.filled; counted = rw same it.counted; few = omega (arith, ap length still, fewer_first back left r step) }

    pub taken_before : (r : Option T) → back ≡ [] → kept ≡ [] → length buckets ≡ 0 → YieldsLast all_left front r left → YieldsLast all_left (front ++ items_of buckets ++ back) r (left ++ items_of rest ++ kept)
    taken_before None none still no_buckets ended = rw (same, none, still, nil_from_length buckets no_buckets) (simp append-nil ended)
    taken_before (Some x) none still no_buckets at = rw (same, none, still, nil_from_length buckets no_buckets) (simp append-nil at)

    pub taken_before_ahead : (r : Option T) → kept ≡ [] → YieldsLast all_left front r left → IsAhead left rest kept between
    taken_before_ahead r still step =
        let few = it.few in
        record { filled = rw same it.filled; counted = rw same it.counted; few = omega (arith, ap length still, fewer_last front left r step) }

-- the last of the buckets that are kept goes
module _ {A : Type 0} (all : List A) (s t : IntoIter A 27) where
  -- so many buckets are let go, and these are open
  abbrev pub kept_of : ℕ → ℕ → IntoIter A 27 → Type 0
  kept_of closed opened it = (array_into_iter_items it ≡ take (length (array_into_iter_items it)) all) × (length (array_into_iter_items it) + closed ≡ 27 + opened)

  pub kept_fewer : {closed : ℕ} (opened : ℕ) (r : Option A) → array_steps_back s r t → kept_of closed opened s → closed < 27 → kept_of (closed + 1) opened t
  kept_fewer {closed} opened None ended kept more = absurd (let none = ended.0 in let counted = kept.1 in omega arith)
  kept_fewer {closed} opened (Some x) at kept more =
      let before = array_into_iter_items s in let after = array_into_iter_items t in
      let one = length-append after (x ∷ []) in let shorter = ap length at in
      let counted = kept.1 in
      (sym (take-append_seam after (x ∷ [])) ∙ (ap (take (length after)) (sym at ∙ kept.0) ∙ take-take (length after) (length before) all (omega (arith, shorter, one))), omega (arith, shorter, one))

  pub kept_open : {closed : ℕ} (opened : ℕ) → kept_of closed opened s → closed ≡ 27 → array_into_iter_items s ≡ take opened all
  kept_open {closed} opened kept done = kept.0 ∙ ap (λ n. take n all) (let counted = kept.1 in omega arith)
