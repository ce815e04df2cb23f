-- What the fields of a stable vector tell, once they agree.
use Rattle.std.proofs.Common.{◌≡◌, ◌≢◌, ℕ, suc, ◌+◌, ◌-◌, ◌*◌, ◌^◌, ◌<◌, ◌≤◌, List, [], ◌∷◌, ◌++◌, length, take, drop, get_or, set, Option, Some, None, cond, refl, sym, ◌∙◌, ap, subst, inl, inr, add-one, add-zero, arith, lit<, length-append, append-nil, length-drop, slice_get, IsSome, IsSomeAnd}
use Rattle.std.proofs.lemmas.Bool.{cases_lt, lt-ltb, le-ltb}
use Rattle.std.proofs.Math.Nat.{lt_of_lt_of_le}
use Rattle.std.proofs.Math.ListN.{length-set, drop_of_length-le}
use Rattle.std.proofs.Math.Seq.{take-suc}
use Rattle.std.proofs.lemmas.List.{set-get_or, get_or_default, take_all, length-take, get_or-take, get_or-drop}
use Rattle.std.proofs.lemmas.Option.{slice_get-get_or, slice_get_cases, get_or_from_slice_get}
use Rattle.std.proofs.lemmas.List.Edits.{swap_is}
use Rattle.std.specs.List.{swap}
use Rattle.wasmi_arena.specs.Geometry.{size, start, max_len, IsPlace, IsFewest, fewest}
use Rattle.wasmi_arena.specs.Bucket.{Bucket}
use Rattle.wasmi_arena.specs.StableVec.{bucket_at}
use Rattle.wasmi_arena.specs.inner.Table.{items_of, items_in, bucket_filled, bucket_with, bucket_cut, with_item, write, bucket_from, IsTable, AreFilled, IsLaidOut}
use Rattle.wasmi_arena.specs.inner.Ahead.{IsAhead}
use Rattle.wasmi_arena.proofs.Doubling.{start-size, size-suc, size_pos, start_mono, start_below, fewest_is, fewest_is_least, fewest_of_none, fewest_of_place, below_of_start, place-next, place-last}
use Rattle.wasmi_arena.proofs.Table.{items_in-bucket_from, get_or-IsTable, items_of-IsTable, IsTable-set, IsTable-write, IsTable-cut, IsTable-take, AreFilled-take, IsTable-none}

module _ {T : Type 0} where
  -- the bucket of a list that has an item
  pub bucket_from-some : (width : ℕ) (items : List T) → 0 < length items → bucket_from width items ≡ Some record { items = take width items; capacity = width }
  bucket_from-some width [] some = absurd (omega arith)
  bucket_from-some width (x ∷ xs) some = refl

  abbrev capacity_of : Option (Bucket T) → ℕ
  capacity_of None = 0
  capacity_of (Some bucket) = bucket.capacity

  bucket_from-capacity : (width : ℕ) (items : List T) (bucket : Bucket T) → bucket_from width items ≡ Some bucket → bucket.capacity ≡ width
  bucket_from-capacity width [] bucket is = cc
  bucket_from-capacity width (x ∷ xs) bucket is = sym (ap capacity_of is)

  -- a part of a list reads what the list reads
  slice_get-take_drop : (xs : List T) (m n s i : ℕ) → s < n → m + s ≡ i → i < length xs → slice_get (take n (drop m xs)) s ≡ slice_get xs i
  slice_get-take_drop [] m n s i slot at below = absurd (omega arith)
  slice_get-take_drop (x ∷ xs) m n s i slot at below =
      let there : s < length (take n (drop m (x ∷ xs))) = omega (arith, length-take n (drop m (x ∷ xs)), length-drop m (x ∷ xs)) in
      let same = get_or-take n (drop m (x ∷ xs)) s x slot ∙ (get_or-drop m (x ∷ xs) s x ∙ ap (λ k. get_or (x ∷ xs) k x) at) in
      slice_get-get_or (take n (drop m (x ∷ xs))) s x there ∙ (ap Some same ∙ sym (slice_get-get_or (x ∷ xs) i x below))

  module _ {buckets : List (Option (Bucket T))} {open_buckets slots len : ℕ} (v : IsLaidOut buckets open_buckets slots len) where
    -- the open buckets are the fewest
    IsFewest-len : IsFewest len (fewest len)
    IsFewest-len = fewest_is_least len v.few_items

    pub index-lt_len : {i : ℕ} → i < length (items_of buckets) → i < len
    index-lt_len {i} below = rw v.items_counted below

    pub index-lt_max : {i : ℕ} → i < length (items_of buckets) → i < max_len
    index-lt_max {i} below = let few = v.few_items in omega (arith, index-lt_len below)

    pub fewest-len : fewest len ≡ fewest (length (items_of buckets))
    fewest-len = ap fewest v.items_counted

    pub fewest-le_27 : fewest len ≤ 27
    fewest-le_27 = IsFewest-len.least 27 v.few_items

    pub open-le_27 : open_buckets ≤ 27
    open-le_27 = rw v.fewest_open fewest-le_27

    -- bucket b of the table holds what begins at its start
    pub get_or-buckets : (b : ℕ) → b < 27 → get_or buckets b None ≡ bucket_from (size b) (drop (start b) (items_of buckets))
    get_or-buckets b below =
        let begins : 32 * 2 ^ b - 32 ≡ start b = omega (arith, start-size b) in
        get_or-IsTable 32 b (items_of buckets) buckets v.table (rw v.buckets_counted below) ∙ ap (λ n. bucket_from (size b) (drop n (items_of buckets))) begins

    -- a bucket that begins before the items end is open
    pub get_or-open : (b : ℕ) → b < 27 → start b < len → get_or buckets b None ≡ Some record { items = take (size b) (drop (start b) (items_of buckets)); capacity = size b }
    get_or-open b below early = get_or-buckets b below ∙ bucket_from-some (size b) (drop (start b) (items_of buckets)) (omega (arith, length-drop (start b) (items_of buckets), v.items_counted))

    -- bucket b of the table is the one that callers see
    pub get_or-bucket_at : (b : ℕ) → b < 27 → get_or buckets b None ≡ bucket_at (items_of buckets) b
    get_or-bucket_at b below = elim (cases_lt b (fewest (length (items_of buckets)))) [
      | inl needed ↦ get_or-open b below (let e = fewest-len in let least = IsFewest-len.least b in elim (cases_lt (start b) len) [ inl early ↦ early | inr late ↦ absurd (let few = least late in omega arith) ])
          ∙ sym (ap (λ t. cond t (Some record { items = take (size b) (drop (start b) (items_of buckets)); capacity = size b }) None) (lt-ltb b (fewest (length (items_of buckets))) needed))
      | inr free ↦ get_or-buckets b below ∙ (ap (bucket_from (size b)) (drop_of_length-le (items_of buckets) {i = start b} (let e = fewest-len in let enough = IsFewest-len.enough in omega (arith, v.items_counted, start_mono (fewest len) b (omega arith))))
          ∙ sym (ap (λ t. cond t (Some record { items = take (size b) (drop (start b) (items_of buckets)); capacity = size b }) None) (le-ltb b (fewest (length (items_of buckets))) free)))
    ]

    -- there is no bucket past the last
    pub bucket_at-past : (b : ℕ) → 27 ≤ b → bucket_at (items_of buckets) b ≡ None
    bucket_at-past b above = ap (λ t. cond t (Some record { items = take (size b) (drop (start b) (items_of buckets)); capacity = size b }) None) (le-ltb b (fewest (length (items_of buckets))) (let e = fewest-len in let o = fewest-le_27 in omega arith))

    -- the open buckets have a slot for each item
    pub length-le_slots : length (items_of buckets) ≤ start (fewest len)
    length-le_slots = rw (← v.items_counted) IsFewest-len.enough

    pub len-le_slots : len ≤ slots
    len-le_slots = rw (v.slots_counted, v.fewest_open) IsFewest-len.enough

    pub slots-le_max : slots ≤ max_len
    slots-le_max = rw v.slots_counted (start_mono open_buckets 27 open-le_27)

    pub open-fits : open_buckets + 1 < 2 ^ 64
    open-fits = let few = open-le_27 in omega arith

    -- a vector with a free slot isn't full
    pub free-lt_max : len < slots → length (items_of buckets) < max_len
    free-lt_max free = rw (← v.items_counted) (lt_of_lt_of_le free slots-le_max)

    -- the open buckets
    pub IsTable-open : IsTable 32 (items_of buckets) (take (fewest len) buckets)
    IsTable-open = IsTable-take 32 (fewest len) (items_of buckets) buckets v.table (let enough = IsFewest-len.enough in omega (arith, start-size (fewest len), v.items_counted))

    -- the open buckets hold every item
    pub items_of-open : items_of (take (fewest len) buckets) ≡ items_of buckets
    items_of-open = items_of-IsTable 32 (items_of buckets) (take (fewest len) buckets) IsTable-open

    -- and each of them has one
    pub AreFilled-open : AreFilled (take (fewest len) buckets)
    AreFilled-open = AreFilled-take 32 (fewest len) (items_of buckets) buckets (lit< tt) v.table (rw v.buckets_counted fewest-le_27)
        (λ c below. elim (cases_lt (start c) len) [
          | inl early ↦ omega (arith, start-size c, v.items_counted)
          | inr late ↦ absurd (let few = IsFewest-len.least c late in omega arith)
        ])

    -- all items are ahead of an iterator that begins
    pub all_ahead : (front back : List T) → front ≡ [] → back ≡ [] → IsAhead front (take open_buckets buckets) back len × (front ++ items_of (take open_buckets buckets) ++ back ≡ items_of buckets)
    all_ahead front back no_front no_back = rw v.fewest_open (
      record { filled = AreFilled-open; counted = rw items_of-open v.items_counted; few = rw (no_front, no_back) (let few = v.few_items in omega arith) },
      rw (no_front, no_back) (append-nil (items_of (take (fewest len) buckets)) ∙ items_of-open),
    )

    -- what is read at the bucket of an index
    module _ {i b s : ℕ} (place : IsPlace i b s) (below : i < len) {found : Option (Bucket T)} (read : found ≡ get_or buckets b found) where
      bucket_read : found ≡ Some record { items = take (size b) (drop (start b) (items_of buckets)); capacity = size b }
      bucket_read = read ∙ (get_or_default buckets b found None (rw v.buckets_counted place.bucket_exists) ∙ get_or-open b place.bucket_exists (omega (arith, place.index_is)))

      pub bucket_there : IsSome found
      bucket_there = rw bucket_read refl

      module _ {bucket : Bucket T} (is : found ≡ Some bucket) {slice : List T} (whole : slice ≡ bucket.items) where
        slice_is : slice ≡ take (size b) (drop (start b) (items_of buckets))
        slice_is = whole ∙ ap items_in (sym is ∙ bucket_read)

        pub slot_there : s < length slice
        slot_there = rw slice_is (omega (arith, length-take (size b) (drop (start b) (items_of buckets)), length-drop (start b) (items_of buckets), v.items_counted, place.slot_exists, place.index_is))

        pub item_read : {x : T} → x ≡ get_or slice s x → Some x ≡ slice_get (items_of buckets) i
        item_read {x} at =
            let here = get_or-take (size b) (drop (start b) (items_of buckets)) s x place.slot_exists ∙ get_or-drop (start b) (items_of buckets) s x in
            let same : x ≡ get_or (items_of buckets) i x = at ∙ (ap (λ (xs : List T). get_or xs s x) slice_is ∙ (here ∙ ap (λ n. get_or (items_of buckets) n x) place.index_is)) in
            ap Some same ∙ sym (slice_get-get_or (items_of buckets) i x (rw (← v.items_counted) below))

    -- an item is exchanged in its slot
    module _ {i b s : ℕ} (place : IsPlace i b s) (below : i < len) where
      IsTable-written : (item : T) → IsTable 32 (set (items_of buckets) i item) (set buckets b (with_item (get_or buckets b None) s item))
      IsTable-written item = IsTable-write 32 b s i (items_of buckets) buckets item (lit< tt) v.table (rw v.buckets_counted place.bucket_exists) place.slot_exists
          (omega (arith, start-size b, place.index_is)) (rw (← v.items_counted) below)

      pub items_of-written : (item : T) → items_of (set buckets b (with_item (get_or buckets b None) s item)) ≡ set (items_of buckets) i item
      items_of-written item = items_of-IsTable 32 (set (items_of buckets) i item) (set buckets b (with_item (get_or buckets b None) s item)) (IsTable-written item)

      pub IsLaidOut-written : (item : T) → IsLaidOut (set buckets b (with_item (get_or buckets b None) s item)) open_buckets slots len
      IsLaidOut-written item = record {
        buckets_counted = length-set buckets b (with_item (get_or buckets b None) s item) ∙ v.buckets_counted;
        table = rw (items_of-written item) (IsTable-written item);
        items_counted = rw (items_of-written item) (v.items_counted ∙ sym (length-set (items_of buckets) i item));
        few_items = v.few_items;
        fewest_open = v.fewest_open;
        slots_counted = v.slots_counted;
      }

      -- its bucket holds it in that slot
      items_in-place : items_in (get_or buckets b None) ≡ take (size b) (drop (start b) (items_of buckets))
      items_in-place = rw (get_or-buckets b place.bucket_exists) (items_in-bucket_from (size b) (drop (start b) (items_of buckets)))

      pub slot_filled : s < length (items_in (get_or buckets b None))
      slot_filled = rw items_in-place (omega (arith, length-take (size b) (drop (start b) (items_of buckets)), length-drop (start b) (items_of buckets), v.items_counted, place.slot_exists, place.index_is))

      pub slice_get-slot : slice_get (items_in (get_or buckets b None)) s ≡ slice_get (items_of buckets) i
      slice_get-slot = rw items_in-place (slice_get-take_drop (items_of buckets) (start b) (size b) s i place.slot_exists place.index_is (rw (← v.items_counted) below))

    -- more items go to the slots of a bucket, from a place on
    module _ {b s : ℕ} (place : IsPlace len b s) (more : List T) (some : 0 < length more) (fits : s + length more ≤ size b) where
      IsTable-append : IsTable 32 (items_of buckets ++ more) (set buckets b (bucket_filled (size b) (get_or buckets b None) more))
      IsTable-append = IsTable-set 32 b (items_of buckets) buckets more (lit< tt) some v.table (rw v.buckets_counted place.bucket_exists)
          (omega (arith, start-size b, v.items_counted, place.index_is)) (omega (arith, start-size b, size-suc b, v.items_counted, place.index_is, fits))

      pub items_of-append : items_of (set buckets b (bucket_filled (size b) (get_or buckets b None) more)) ≡ items_of buckets ++ more
      items_of-append = items_of-IsTable 32 (items_of buckets ++ more) (set buckets b (bucket_filled (size b) (get_or buckets b None) more)) IsTable-append

      len-append : len + length more ≤ max_len
      len-append = omega (arith, start_below b 27 place.bucket_exists, place.index_is, fits)

      -- the last of them is in that bucket too
      fewest-append : fewest (len + length more) ≡ b + 1
      fewest-append =
          let last : IsPlace (len + length more - 1) b (s + length more - 1) = record { bucket_exists = place.bucket_exists; slot_exists = omega (arith, some, fits); index_is = omega (arith, some, place.index_is) } in
          let end : len + length more - 1 + 1 ≡ len + length more = omega (arith, some) in
          fewest_is len-append (subst (λ (n : ℕ). IsFewest n (b + 1)) end (fewest_of_place last))

      pub IsLaidOut-append : IsLaidOut (set buckets b (bucket_filled (size b) (get_or buckets b None) more)) (b + 1) (start (b + 1)) (len + length more)
      IsLaidOut-append = record {
        buckets_counted = length-set buckets b (bucket_filled (size b) (get_or buckets b None) more) ∙ v.buckets_counted;
        table = rw items_of-append IsTable-append;
        items_counted = rw items_of-append (omega (arith, length-append (items_of buckets) more, v.items_counted));
        few_items = len-append;
        fewest_open = sym fewest-append;
        slots_counted = refl;
      }

    -- the slot of the next item
    module _ {b s : ℕ} (place : IsPlace len b s) where
      -- it is the first free one of its bucket
      pub first_free : s ≡ length (items_in (get_or buckets b None))
      first_free = rw (get_or-buckets b place.bucket_exists, items_in-bucket_from)
          (omega (arith, length-take (size b) (drop (start b) (items_of buckets)), length-drop (start b) (items_of buckets), v.items_counted, place.index_is, place.slot_exists))

      -- and its size, if it is open
      pub open_size : (bucket : Bucket T) → get_or buckets b None ≡ Some bucket → bucket.capacity ≡ size b
      open_size bucket is = bucket_from-capacity (size b) (drop (start b) (items_of buckets)) bucket (sym (get_or-buckets b place.bucket_exists) ∙ is)

      -- in the last of the open buckets, more items go to its free slots
      module _ (last : b + 1 ≡ open_buckets) where
        slots-end : slots ≡ start b + size b
        slots-end = v.slots_counted ∙ ap start (sym last ∙ add-one b)

        pub fits-last : (more : ℕ) → more ≤ slots - len → s + more ≤ size b
        fits-last more free = omega (arith, slots-end, len-le_slots, place.index_is)

        pub free-last : (more : ℕ) → s + more ≤ size b → more ≤ slots - len
        free-last more fits = omega (arith, slots-end, place.index_is)

        -- none leave it as it is
        fill_none : set buckets b (bucket_filled (size b) (get_or buckets b None) []) ≡ buckets
        fill_none =
            let read : get_or buckets b None ≡ Some record { items = take (size b) (drop (start b) (items_of buckets)); capacity = size b } = elim (cases_lt (start b) len) [
              | inl early ↦ get_or-open b place.bucket_exists early
              | inr late ↦ absurd (let few = IsFewest-len.least b late in let is = v.fewest_open in omega arith)
            ] in
            let same : bucket_filled (size b) (get_or buckets b None) [] ≡ get_or buckets b None =
            (rw read (ap (λ (xs : List T). Some record { items = xs; capacity = size b }) (append-nil (take (size b) (drop (start b) (items_of buckets)))))) in
            ap (set buckets b) same ∙ set-get_or buckets b None

        pub items_of-fill : (more : List T) → length more ≤ slots - len → items_of (set buckets b (bucket_filled (size b) (get_or buckets b None) more)) ≡ items_of buckets ++ more
        items_of-fill [] free = ap items_of fill_none ∙ sym (append-nil (items_of buckets))
        items_of-fill (x ∷ more) free = items_of-append place (x ∷ more) (omega arith) (fits-last (length (x ∷ more)) free)

        pub IsLaidOut-fill : (more : List T) → length more ≤ slots - len → IsLaidOut (set buckets b (bucket_filled (size b) (get_or buckets b None) more)) open_buckets slots (len + length more)
        IsLaidOut-fill [] free = rw (fill_none, add-zero) v
        IsLaidOut-fill (x ∷ more) free = rw (v.slots_counted, ← last) (IsLaidOut-append place (x ∷ more) (omega arith) (fits-last (length (x ∷ more)) free))

      -- among the open buckets, it is open
      pub place-open : b < open_buckets → IsSome (get_or buckets b None)
      place-open among = elim (cases_lt (start b) len) [
        | inl early ↦ rw (get_or-open b place.bucket_exists early) refl
        | inr late ↦ absurd (let few = IsFewest-len.least b late in let is = v.fewest_open in omega arith)
      ]

    -- a slot is free, so the next item goes to the last of the open buckets
    module _ (free : len < slots) where
      pub last-free : open_buckets - 1 + 1 ≡ open_buckets
      last-free = let some = below_of_start 0 open_buckets (len + 1) (omega arith) (omega (arith, v.slots_counted)) in omega arith

      pub place-free : IsPlace len (open_buckets - 1) (len - start (open_buckets - 1))
      place-free = place-last len open_buckets v.few_items v.fewest_open (rw (← v.slots_counted) free)

      -- all slots that are free are that bucket's
      pub free_counted : length (items_in (get_or buckets (open_buckets - 1) None)) + (slots - len) ≡ size (open_buckets - 1)
      free_counted =
          let b = open_buckets - 1 in let held = first_free place-free in let end = slots-end place-free last-free in
          omega (arith, place-free.index_is)

      pub items_of-last : (item : T) → items_of (set buckets (open_buckets - 1) (bucket_with (size (open_buckets - 1)) (get_or buckets (open_buckets - 1) None) item)) ≡ items_of buckets ++ item ∷ []
      items_of-last item = items_of-fill place-free last-free (item ∷ []) (omega arith)

      pub IsLaidOut-last : (item : T) → IsLaidOut (set buckets (open_buckets - 1) (bucket_with (size (open_buckets - 1)) (get_or buckets (open_buckets - 1) None) item)) open_buckets slots (len + 1)
      IsLaidOut-last item = IsLaidOut-fill place-free last-free (item ∷ []) (omega arith)

    -- the last item leaves its slot
    module _ {i b s : ℕ} (place : IsPlace i b s) (last : len ≡ i + 1) where
      IsTable-pop : IsTable 32 (take i (items_of buckets)) (set buckets b (bucket_cut (get_or buckets b None) s))
      IsTable-pop = IsTable-cut 32 b s i (items_of buckets) buckets (lit< tt) v.table (rw v.buckets_counted place.bucket_exists) place.slot_exists
          (omega (arith, start-size b, place.index_is)) (omega (arith, v.items_counted, last))

      pub items_of-pop : items_of (set buckets b (bucket_cut (get_or buckets b None) s)) ≡ take i (items_of buckets)
      items_of-pop = items_of-IsTable 32 (take i (items_of buckets)) (set buckets b (bucket_cut (get_or buckets b None) s)) IsTable-pop

      pub IsLaidOut-pop : IsLaidOut (set buckets b (bucket_cut (get_or buckets b None) s)) (fewest i) (start (fewest i)) i
      IsLaidOut-pop = record {
        buckets_counted = length-set buckets b (bucket_cut (get_or buckets b None) s) ∙ v.buckets_counted;
        table = rw items_of-pop IsTable-pop;
        items_counted = rw items_of-pop (omega (arith, length-take i (items_of buckets), v.items_counted, last));
        few_items = let few = v.few_items in omega (arith, last);
        fewest_open = refl;
        slots_counted = refl;
      }

      -- its bucket holds it behind the others
      pub last_in_place : length (items_in (get_or buckets b None)) ≡ s + 1
      last_in_place = rw (get_or-buckets b place.bucket_exists, items_in-bucket_from)
          (omega (arith, length-take (size b) (drop (start b) (items_of buckets)), length-drop (start b) (items_of buckets), v.items_counted, place.index_is, place.slot_exists, last))

      -- and the vector does
      pub popped : (x : T) → slice_get (items_in (get_or buckets b None)) s ≡ Some x → (slice_get (items_of buckets) i ≡ Some x) × (items_of buckets ≡ take i (items_of buckets) ++ x ∷ [])
      popped x there =
          let read = sym (slice_get-slot place (omega (arith, last))) ∙ there in
          let counted : length (items_of buckets) ≡ suc i = omega (arith, v.items_counted, last) in
          (read, sym (take_all (suc i) (items_of buckets) (omega arith)) ∙ (take-suc (items_of buckets) i x (omega arith) ∙ ap (λ (y : T). take i (items_of buckets) ++ y ∷ []) (get_or_from_slice_get (items_of buckets) i x x read)))

    -- no slot of the open buckets is free, so the next item goes to the first slot of the next bucket
    module _ (full : slots ≤ len) (other : len ≢ max_len) where
      below : len < max_len
      below = let few = v.few_items in omega arith

      pub place-full : IsPlace len open_buckets 0
      place-full = place-next len open_buckets v.few_items v.fewest_open below (rw (← v.slots_counted) full)

      -- which isn't open
      pub get_or-full : get_or buckets open_buckets None ≡ None
      get_or-full = get_or-buckets open_buckets place-full.bucket_exists
          ∙ ap (bucket_from (size open_buckets)) (drop_of_length-le (items_of buckets) {i = start open_buckets} (rw v.fewest_open length-le_slots))

      -- and is opened for them
      module _ (more : List T) (some : 0 < length more) (fits : length more ≤ size open_buckets) where
        pub items_of-open_next_with : items_of (set buckets open_buckets (bucket_filled (size open_buckets) None more)) ≡ items_of buckets ++ more
        items_of-open_next_with = subst (λ (b : Option (Bucket T)). items_of (set buckets open_buckets (bucket_filled (size open_buckets) b more)) ≡ items_of buckets ++ more) get_or-full (items_of-append place-full more some (omega (arith, fits)))

        pub IsLaidOut-open_next_with : IsLaidOut (set buckets open_buckets (bucket_filled (size open_buckets) None more)) (open_buckets + 1) (start (open_buckets + 1)) (len + length more)
        IsLaidOut-open_next_with = subst (λ (b : Option (Bucket T)). IsLaidOut (set buckets open_buckets (bucket_filled (size open_buckets) b more)) (open_buckets + 1) (start (open_buckets + 1)) (len + length more)) get_or-full (IsLaidOut-append place-full more some (omega (arith, fits)))

      -- or for one
      pub items_of-open_next : (item : T) → items_of (set buckets open_buckets (bucket_with (size open_buckets) None item)) ≡ items_of buckets ++ item ∷ []
      items_of-open_next item = items_of-open_next_with (item ∷ []) (omega arith) (omega (arith, size_pos open_buckets))

      pub IsLaidOut-open_next : (item : T) → IsLaidOut (set buckets open_buckets (bucket_with (size open_buckets) None item)) (open_buckets + 1) (start (open_buckets + 1)) (len + 1)
      IsLaidOut-open_next item = IsLaidOut-open_next_with (item ∷ []) (omega arith) (omega (arith, size_pos open_buckets))

  -- the items at i and at j are exchanged, each in the other's slot
  module _ {buckets : List (Option (Bucket T))} {open_buckets slots len : ℕ} (v : IsLaidOut buckets open_buckets slots len) {i b s : ℕ} (place-i : IsPlace i b s) (below-i : i < len) {j d t : ℕ} (place-j : IsPlace j d t) (below : j < len) where
    there : (k : ℕ) → k < len → (x : T) × (slice_get (items_of buckets) k ≡ Some x)
    there k inside = elim (slice_get_cases (items_of buckets) k).1 [
      | inl some ↦ (some.0, some.2)
      | inr past ↦ absurd (omega (arith, v.items_counted, past.0))
    ]

    module _ (x y : T) (at-i : slice_get (items_of buckets) i ≡ Some x) (at-j : slice_get (items_of buckets) j ≡ Some y) where
      IsLaidOut-once : IsLaidOut (write buckets b s y) open_buckets slots len
      IsLaidOut-once = IsLaidOut-written v place-i below-i y

      IsLaidOut-twice : IsLaidOut (write (write buckets b s y) d t x) open_buckets slots len
      IsLaidOut-twice = IsLaidOut-written IsLaidOut-once place-j below x

      items_of-twice : items_of (write (write buckets b s y) d t x) ≡ swap (items_of buckets) i j
      items_of-twice =
          let items = items_of buckets in
          items_of-written IsLaidOut-once place-j below x
          ∙ rw (items_of-written v place-i below-i y, ← get_or_from_slice_get items i x x at-i, ← get_or_from_slice_get items j y x at-j)
          (swap_is items i j x (omega (arith, v.items_counted, below-i)) (omega (arith, v.items_counted)))

    pub IsLaidOut-swap : (table : List (Option (Bucket T))) → ((x y : T) → slice_get (items_in (get_or buckets b None)) s ≡ Some x → slice_get (items_in (get_or buckets d None)) t ≡ Some y → table ≡ write (write buckets b s y) d t x)
        → IsLaidOut table open_buckets slots len × (items_of table ≡ swap (items_of buckets) i j)
    IsLaidOut-swap table exchanged =
        let x = there i below-i in let y = there j below in
        let table_is = exchanged x.0 y.0 (slice_get-slot v place-i below-i ∙ x.1) (slice_get-slot v place-j below ∙ y.1) in
        (rw table_is (IsLaidOut-twice x.0 y.0 x.1 y.1), rw table_is (items_of-twice x.0 y.0 x.1 y.1))

  -- where no bucket is open, there is no item
  pub IsLaidOut-none : (buckets : List (Option (Bucket T))) → length buckets ≡ 27 → ((b : ℕ) → b < length buckets → get_or buckets b None ≡ None) → IsLaidOut buckets 0 0 0 × (items_of buckets ≡ [])
  IsLaidOut-none buckets counted empty =
      let table = IsTable-none 32 buckets empty in
      let none = items_of-IsTable 32 [] buckets table in
      (record { buckets_counted = counted; table = rw none table; items_counted = sym (ap length none); few_items = omega arith; fewest_open = sym (fewest_is (omega arith) fewest_of_none); slots_counted = refl }, none)

  -- an item lies in the slot of its index
  pub slice_get-bucket_at : (items : List T) (i b s : ℕ) → length items ≤ max_len → i < length items → IsPlace i b s → IsSomeAnd (bucket_at items b) (λ bucket. slice_get bucket.items s ≡ slice_get items i)
  slice_get-bucket_at items i b s small below place =
      let enough = (fewest_is_least (length items) small).enough in
      let needed : b < fewest (length items) = below_of_start b (fewest (length items)) (length items) (omega (arith, place.index_is)) enough in
      rw (lt-ltb b (fewest (length items)) needed) (slice_get-take_drop items (start b) (size b) s i place.slot_exists place.index_is below)
