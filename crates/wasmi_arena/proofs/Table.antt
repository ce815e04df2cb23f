-- Facts on the table in which a stable vector lays out its items.
use Rattle.std.proofs.Common.{◌≡◌, ℕ, zero, suc, ◌+◌, ◌-◌, ◌*◌, ◌^◌, ◌<◌, ◌≤◌, List, [], ◌∷◌, ◌++◌, length, take, drop, get_or, set, Option, Some, None, refl, sym, ◌∙◌, ap, subst, arith, length-append, append-nil, append_assoc, length-drop}
use Rattle.std.proofs.Math.Nat.{pow-succ', mul-le-mul_left}
use Rattle.std.proofs.Math.ListN.{drop_of_length-le}
use Rattle.std.proofs.Math.Seq.{drop-nil, take-set-lt}
use Rattle.std.proofs.lemmas.Nat.{pow_pos}
use Rattle.std.proofs.lemmas.List.{nil_from_length, get_or_default, take_all, take-append-drop, take-append-le, drop-append-le, drop-drop, drop-take, take-take, length-take, length-set, take-set-le, drop-set-lt, drop-set-add, get_or-set_same, set-set}
use Rattle.std.specs.Iterator.{YieldsFirstRef, YieldsLastRef}
use Rattle.std.specs.Borrow.{Bor}
use Rattle.std.specs.Slice.Iter.{iter_rest, iter_steps, iter_steps_back}
use Rattle.std.specs.declared.slice.Iter.{Iter}
use Rattle.wasmi_arena.specs.Bucket.{Bucket}
use Rattle.wasmi_arena.specs.inner.Table.{items_of, items_in, bucket_filled, bucket_cut, with_item, write, bucket_from, IsTable, AreFilled}
use Rattle.wasmi_arena.specs.inner.Ahead.{IsAhead}

-- twice the width before is the width after
mul-pow_suc : (width b : ℕ) → width * 2 ^ suc b ≡ 2 * width * 2 ^ b
mul-pow_suc width b = rw (pow-succ' 2 b) (omega arith)

module _ {T : Type 0} where
  -- the first bucket, before the rest
  items_of-bucket_from : (width : ℕ) (items : List T) (buckets : List (Option (Bucket T))) → items_of (bucket_from width items ∷ buckets) ≡ take width items ++ items_of buckets
  items_of-bucket_from width [] buckets = rw (take_all {A = T} width [] (omega arith)) refl
  items_of-bucket_from width (x ∷ xs) buckets = refl

  pub items_in-bucket_from : (width : ℕ) (items : List T) → items_in (bucket_from width items) ≡ take width items
  items_in-bucket_from width [] = sym (take_all {A = T} width [] (omega arith))
  items_in-bucket_from width (x ∷ xs) = refl

  -- the buckets of a table hold its items
  pub items_of-IsTable : (width : ℕ) (items : List T) (buckets : List (Option (Bucket T))) → IsTable width items buckets → items_of buckets ≡ items
  items_of-IsTable width items [] table = sym table
  items_of-IsTable width items (bucket ∷ buckets) table =
      let rest = items_of-IsTable (2 * width) (drop width items) buckets table.1 in
      rw table.0 (items_of-bucket_from width items buckets ∙ (ap (λ (xs : List T). take width items ++ xs) rest ∙ take-append-drop width items))

  -- bucket b holds what begins after the buckets before it
  pub get_or-IsTable : (width b : ℕ) (items : List T) (buckets : List (Option (Bucket T))) → IsTable width items buckets → b < length buckets → get_or buckets b None ≡ bucket_from (width * 2 ^ b) (drop (width * 2 ^ b - width) items)
  get_or-IsTable width b items [] table below = absurd (omega arith)
  get_or-IsTable width zero items (bucket ∷ buckets) table below =
      let one : width * 2 ^ 0 ≡ width = omega arith in
      let none : width * 2 ^ 0 - width ≡ 0 = omega arith in
      rw (none, one) table.0
  get_or-IsTable width (suc b) items (bucket ∷ buckets) table below =
      let next = get_or-IsTable (2 * width) b (drop width items) buckets table.1 (omega arith) in
      let whole : 2 * width * 2 ^ b ≡ width * 2 ^ suc b = sym (mul-pow_suc width b) in
      let seam : width + (2 * width * 2 ^ b - 2 * width) ≡ width * 2 ^ suc b - width = omega (arith, whole, mul-le-mul_left (2 * width) (pow_pos b)) in
      next ∙ (ap (λ (xs : List T). bucket_from (2 * width * 2 ^ b) xs) (drop-drop (2 * width * 2 ^ b - 2 * width) width items ∙ ap (λ n. drop n items) seam) ∙ ap (λ n. bucket_from n (drop (width * 2 ^ suc b - width) items)) whole)

  -- where there are no items, each bucket is empty
  pub IsTable-none : (width : ℕ) (buckets : List (Option (Bucket T))) → ((b : ℕ) → b < length buckets → get_or buckets b None ≡ None) → IsTable width [] buckets
  IsTable-none width [] empty = refl
  IsTable-none width (bucket ∷ buckets) empty =
      (empty 0 (omega arith), rw (drop-nil {A = T} width) (IsTable-none (2 * width) buckets (λ b below. empty (suc b) (omega arith))))

  -- the bucket that is not full yet takes more items
  bucket_from-append_low : (width : ℕ) (items more : List T) → 0 < length more → length items + length more ≤ width → bucket_from width (items ++ more) ≡ bucket_filled width (bucket_from width items) more
  bucket_from-append_low width [] [] some low = absurd (omega arith)
  bucket_from-append_low width [] (y ∷ ys) some low = ap (λ (xs : List T). Some record { items = xs; capacity = width }) (take_all width (y ∷ ys) (omega arith))
  bucket_from-append_low width (x ∷ xs) more some low =
      let all = take_all width (x ∷ xs ++ more) (omega (arith, length-append xs more)) in
      let before = take_all width (x ∷ xs) (omega arith) in
      ap (λ (ys : List T). Some record { items = ys; capacity = width }) (all ∙ ap (λ (ys : List T). ys ++ more) (sym before))

  -- a bucket that is full stays as it is
  bucket_from-append_full : (width : ℕ) (items more : List T) → 0 < width → width ≤ length items → bucket_from width (items ++ more) ≡ bucket_from width items
  bucket_from-append_full width [] more pos high = absurd (omega arith)
  bucket_from-append_full width (x ∷ xs) more pos high = ap (λ (ys : List T). Some record { items = ys; capacity = width }) (take-append-le width (x ∷ xs) more high)

  -- more items, for which there are slots, go to the end of the first bucket that is not full
  pub IsTable-set : (width b : ℕ) (items : List T) (buckets : List (Option (Bucket T))) (more : List T) → 0 < width → 0 < length more → IsTable width items buckets → b < length buckets → width * 2 ^ b ≤ length items + width
      → length items + length more + width ≤ width * 2 ^ suc b → IsTable width (items ++ more) (set buckets b (bucket_filled (width * 2 ^ b) (get_or buckets b None) more))
  IsTable-set width b items [] more pos some table below low high = absurd (omega arith)
  IsTable-set width zero items (bucket ∷ buckets) more pos some table below low high =
      let one : width * 2 ^ 0 ≡ width = omega arith in
      let few : length items + length more ≤ width = omega (arith, mul-pow_suc width 0) in
      let rest = table.1 in
      let none = drop_of_length-le items {i = width} (omega arith) in
      let still = drop_of_length-le (items ++ more) {i = width} (omega (arith, length-append items more)) in
      (rw (one, table.0) (sym (bucket_from-append_low width items more some few)), rw (still ∙ sym none) rest)
  IsTable-set width (suc b) items (bucket ∷ buckets) more pos some table below low high =
      let whole : 2 * width * 2 ^ b ≡ width * 2 ^ suc b = sym (mul-pow_suc width b) in
      let enough : width ≤ length items = omega (arith, whole, mul-le-mul_left (2 * width) (pow_pos b)) in
      let left = length-drop width items in
      let rest = IsTable-set (2 * width) b (drop width items) buckets more (omega arith) some table.1 (omega arith) (omega arith) (omega (arith, mul-pow_suc width (suc b))) in
      (table.0 ∙ sym (bucket_from-append_full width items more pos enough), rw (drop-append-le width items more enough) (rw whole at rest))

  -- an item of the bucket is exchanged
  bucket_from-some : (width : ℕ) (items : List T) → 0 < length items → bucket_from width items ≡ Some record { items = take width items; capacity = width }
  bucket_from-some width [] some = absurd (omega arith)
  bucket_from-some width (x ∷ xs) some = refl

  bucket_from-set_low : (width s : ℕ) (items : List T) (item : T) → s < width → 0 < length items → with_item (bucket_from width items) s item ≡ bucket_from width (set items s item)
  bucket_from-set_low width s items item low some =
      ap (λ b. with_item b s item) (bucket_from-some width items some)
      ∙ (ap (λ (xs : List T). Some record { items = xs; capacity = width }) (sym (take-set-lt width items s item low))
      ∙ sym (bucket_from-some width (set items s item) (omega (arith, length-set items s item))))

  -- an item behind the bucket is
  bucket_from-set_high : (width i : ℕ) (items : List T) (item : T) → width ≤ i → 0 < length items → bucket_from width (set items i item) ≡ bucket_from width items
  bucket_from-set_high width i items item high some =
      bucket_from-some width (set items i item) (omega (arith, length-set items i item))
      ∙ (ap (λ (xs : List T). Some record { items = xs; capacity = width }) (take-set-le width items i item high) ∙ sym (bucket_from-some width items some))

  -- the bucket of the last item loses it
  bucket_cut-last : (width s : ℕ) (items : List T) → s < width → length items ≡ s + 1 → bucket_cut (bucket_from width items) s ≡ bucket_from width (take s items)
  bucket_cut-last width s [] low counted = absurd (omega arith)
  bucket_cut-last width zero (x ∷ xs) low counted = refl
  bucket_cut-last width (suc s) (x ∷ xs) low counted =
      let all = take_all width (x ∷ xs) (omega arith) in
      let left = take_all width (x ∷ take s xs) (omega (arith, length-take s xs)) in
      ap (λ (ys : List T). Some record { items = ys; capacity = width }) (ap (take (suc s)) all ∙ sym left)

  -- a bucket before it stays as it is
  bucket_from-take : (width i : ℕ) (items : List T) → 0 < width → width ≤ i → i < length items → bucket_from width (take i items) ≡ bucket_from width items
  bucket_from-take width i items pos high there =
      bucket_from-some width (take i items) (omega (arith, length-take i items))
      ∙ (ap (λ (xs : List T). Some record { items = xs; capacity = width }) (take-take width i items high) ∙ sym (bucket_from-some width items (omega arith)))

  -- the last item leaves its slot
  pub IsTable-cut : (width b s i : ℕ) (items : List T) (buckets : List (Option (Bucket T))) → 0 < width → IsTable width items buckets → b < length buckets → s < width * 2 ^ b
      → i + width ≡ width * 2 ^ b + s → length items ≡ i + 1 → IsTable width (take i items) (set buckets b (bucket_cut (get_or buckets b None) s))
  IsTable-cut width b s i items [] pos table below slot at counted = absurd (omega arith)
  IsTable-cut width zero s i items (bucket ∷ buckets) pos table below slot at counted =
      let one : width * 2 ^ 0 ≡ width = omega arith in let same : i ≡ s = omega arith in let low : s < width = omega arith in
      let none = drop_of_length-le items {i = width} (omega arith) in
      let still = drop_of_length-le (take i items) {i = width} (omega (arith, length-take i items)) in
      let rest = table.1 in
      (rw (same, table.0) (bucket_cut-last width s items low (omega arith)), rw (still ∙ sym none) rest)
  IsTable-cut width (suc b) s i items (bucket ∷ buckets) pos table below slot at counted =
      let whole : 2 * width * 2 ^ b ≡ width * 2 ^ suc b = sym (mul-pow_suc width b) in
      let high : width ≤ i = omega (arith, whole, mul-le-mul_left (2 * width) (pow_pos b)) in
      let left = length-drop width items in let apart : i ≡ width + (i - width) = omega arith in
      let rest = IsTable-cut (2 * width) b s (i - width) (drop width items) buckets (omega arith) table.1 (omega arith) (omega arith) (omega arith) (omega arith) in (
        table.0 ∙ sym (bucket_from-take width i items pos high (omega arith)),
        subst (λ (xs : List T). IsTable (2 * width) xs (set buckets b (bucket_cut (get_or buckets b None) s))) (sym (ap (λ n. drop width (take n items)) apart ∙ drop-take width (i - width) items)) rest,
      )

  -- an item is exchanged in its slot
  pub IsTable-write : (width b s i : ℕ) (items : List T) (buckets : List (Option (Bucket T))) (item : T) → 0 < width → IsTable width items buckets → b < length buckets → s < width * 2 ^ b
      → i + width ≡ width * 2 ^ b + s → i < length items → IsTable width (set items i item) (set buckets b (with_item (get_or buckets b None) s item))
  IsTable-write width b s i items [] item pos table below slot at there = absurd (omega arith)
  IsTable-write width zero s i items (bucket ∷ buckets) item pos table below slot at there =
      let one : width * 2 ^ 0 ≡ width = omega arith in let same : i ≡ s = omega arith in let low : s < width = omega arith in
      (rw (same, table.0) (bucket_from-set_low width s items item low (omega arith)), rw (same, drop-set-lt width items s item low) table.1)
  IsTable-write width (suc b) s i items (bucket ∷ buckets) item pos table below slot at there =
      let whole : 2 * width * 2 ^ b ≡ width * 2 ^ suc b = sym (mul-pow_suc width b) in
      let high : width ≤ i = omega (arith, whole, mul-le-mul_left (2 * width) (pow_pos b)) in
      let left = length-drop width items in let apart : i ≡ width + (i - width) = omega arith in
      let rest = IsTable-write (2 * width) b s (i - width) (drop width items) buckets item (omega arith) table.1 (omega arith) (omega arith) (omega arith) (omega arith) in (
        table.0 ∙ sym (bucket_from-set_high width i items item high (omega arith)),
        subst (λ (xs : List T). IsTable (2 * width) xs (set buckets b (with_item (get_or buckets b None) s item))) (sym (ap (λ n. drop width (set items n item)) apart ∙ drop-set-add width items (i - width) item)) rest,
      )

  -- what is read at an index within a table stands there
  pub read_there : (buckets : List (Option (Bucket T))) (b : ℕ) (d found : Option (Bucket T)) → b < length buckets → get_or buckets b d ≡ found → get_or buckets b None ≡ found
  read_there buckets b d found inside is = get_or_default buckets b None d inside ∙ is

  -- two writes to one bucket
  pub write-write : (buckets : List (Option (Bucket T))) (b s t : ℕ) (x y : T) → b < length buckets → write (write buckets b s y) b t x ≡ set buckets b (with_item (with_item (get_or buckets b None) s y) t x)
  write-write buckets b s t x y inside =
      rw (get_or-set_same buckets b (with_item (get_or buckets b None) s y) None inside) (set-set buckets b (with_item (get_or buckets b None) s y) (with_item (with_item (get_or buckets b None) s y) t x))

  -- the buckets that are needed hold the items alone
  pub IsTable-take : (width b : ℕ) (items : List T) (buckets : List (Option (Bucket T))) → IsTable width items buckets → length items + width ≤ width * 2 ^ b → IsTable width items (take b buckets)
  IsTable-take width zero items buckets table room = nil_from_length items (omega arith)
  IsTable-take width (suc b) items [] table room = table
  IsTable-take width (suc b) items (bucket ∷ buckets) table room =
      (table.0, IsTable-take (2 * width) b (drop width items) buckets table.1 (omega (arith, mul-pow_suc width b, length-drop width items, mul-le-mul_left (2 * width) (pow_pos b))))

  AreFilled-bucket_from : (width : ℕ) (items : List T) (buckets : List (Option (Bucket T))) → 0 < width → 0 < length items → AreFilled buckets → AreFilled (bucket_from width items ∷ buckets)
  AreFilled-bucket_from width [] buckets pos some rest = absurd (omega arith)
  AreFilled-bucket_from width (x ∷ xs) buckets pos some rest = (omega (arith, length-take width (x ∷ xs)), rest)

  -- each bucket that begins before the items end has an item
  pub AreFilled-take : (width b : ℕ) (items : List T) (buckets : List (Option (Bucket T))) → 0 < width → IsTable width items buckets → b ≤ length buckets → ((c : ℕ) → c < b → width * 2 ^ c < length items + width) → AreFilled (take b buckets)
  AreFilled-take width zero items buckets pos table within early = tt
  AreFilled-take width (suc b) items [] pos table within early = absurd (omega arith)
  AreFilled-take width (suc b) items (bucket ∷ buckets) pos table within early =
      let first : width * 2 ^ 0 < length items + width = early 0 (omega arith) in
      let rest = AreFilled-take (2 * width) b (drop width items) buckets (omega arith) table.1 (omega arith)
      (λ c below. let next = early (suc c) (omega arith) in omega (arith, mul-pow_suc width c, length-drop width items)) in
      subst (λ (r : Option (Bucket T)). AreFilled (r ∷ take b buckets)) (sym table.0) (AreFilled-bucket_from width items (take b buckets) pos (omega arith) rest)

  -- the items of the last bucket come last
  items_of_last : (buckets : List (Option (Bucket T))) (bucket : Bucket T) → items_of (buckets ++ Some bucket ∷ []) ≡ items_of buckets ++ bucket.items
  items_of_last [] bucket = append-nil bucket.items
  items_of_last (None ∷ buckets) bucket = items_of_last buckets bucket
  items_of_last (Some first ∷ buckets) bucket = ap (λ (xs : List T). first.items ++ xs) (items_of_last buckets bucket) ∙ sym (append_assoc first.items (items_of buckets) bucket.items)

  -- the last bucket is open and has an item, and so have the others
  pub filled_last_open : (buckets : List (Option (Bucket T))) → AreFilled (buckets ++ None ∷ []) → ⊥
  filled_last_open [] filled = filled
  filled_last_open (None ∷ buckets) filled = filled
  filled_last_open (Some first ∷ buckets) filled = filled_last_open buckets filled.1

  -- the first bucket that is found is open
  pub first_open : {buckets rest : List (Option (Bucket T))} {found : Option (Bucket T)} → AreFilled buckets → buckets ≡ found ∷ rest → None ≡ found → ⊥
  first_open filled first closed = rw (first, ← closed) at filled

  -- and so is the last
  pub last_open : {buckets : List (Option (Bucket T))} (rest : List (Option (Bucket T))) {found : Option (Bucket T)} → AreFilled buckets → buckets ≡ rest ++ found ∷ [] → None ≡ found → ⊥
  last_open rest filled last closed = filled_last_open rest (rw (last, ← closed) at filled)

  pub filled_last : (buckets : List (Option (Bucket T))) (bucket : Bucket T) → AreFilled (buckets ++ Some bucket ∷ []) → (0 < length bucket.items) × AreFilled buckets
  filled_last [] bucket filled = (filled.0, tt)
  filled_last (None ∷ buckets) bucket filled = absurd filled
  filled_last (Some first ∷ buckets) bucket filled = let rest = filled_last buckets bucket filled.1 in (rest.0, (filled.0, rest.1))

  -- what is ahead of an iterator, where nothing is left of the last bucket and the one before it is entered
  module _ {front back : List T} {buckets : List (Option (Bucket T))} (rest : List (Option (Bucket T))) {found : Option (Bucket T)} {bucket : Bucket T} {between : ℕ} (it : IsAhead front buckets back between) (last : buckets ≡ rest ++ found ∷ []) (is : Some bucket ≡ found) where
    opened : buckets ≡ rest ++ Some bucket ∷ []
    opened = last ∙ ap (λ (b : Option (Bucket T)). rest ++ b ∷ []) (sym is)

    pub last_filled : (0 < length bucket.items) × AreFilled rest
    last_filled = filled_last rest bucket (rw (← opened) it.filled)

    pub last_counted : between ≡ length (items_of rest) + length bucket.items
    last_counted = it.counted ∙ (ap (λ (bs : List (Option (Bucket T))). length (items_of bs)) opened ∙ (ap length (items_of_last rest bucket) ∙ length-append (items_of rest) bucket.items))

    pub last_ahead : (left : List T) (count : ℕ) → count ≡ length bucket.items → length left ≤ count → IsAhead front rest left (between - count)
    last_ahead left count counted few = let c = last_counted in let most = it.few in record { filled = last_filled.1; counted = omega arith; few = omega arith }

    pub last_items : length back ≡ 0 → (left : List T) (x : T) → bucket.items ≡ left ++ x ∷ [] → front ++ items_of buckets ++ back ≡ front ++ items_of rest ++ left ++ x ∷ []
    last_items none left x are =
        rw (nil_from_length back none, append-nil (front ++ items_of buckets)) (ap (λ (bs : List (Option (Bucket T))). front ++ items_of bs) opened
        ∙ (ap (λ (xs : List T). front ++ xs) (items_of_last rest bucket ∙ ap (λ (xs : List T). items_of rest ++ xs) are)
        ∙ (sym (append_assoc front (items_of rest) (left ++ x ∷ [])) ∙ sym (append_assoc (front ++ items_of rest) left (x ∷ [])))))

    -- the bucket is entered and called from the back
    pub last_yields : (s t : Iter T) (r : Option (Bor T)) → iter_rest s ≡ bucket.items → iter_steps_back s r t → length back ≡ 0 → YieldsLastRef (λ (xs : List T). xs) (front ++ items_of buckets ++ back) r (front ++ items_of rest ++ iter_rest t)
    last_yields s t None whole ended none = absurd (let some = last_filled.0 in let short = ended.0 in omega (arith, ap length whole))
    last_yields s t (Some x) whole at none = last_items none (iter_rest t) x.now (sym whole ∙ at)

  -- what is ahead of an iterator, where nothing is left of the first bucket and the next one is entered
  module _ {front back : List T} {buckets rest : List (Option (Bucket T))} {found : Option (Bucket T)} {bucket : Bucket T} {between : ℕ} (it : IsAhead front buckets back between) (first : buckets ≡ found ∷ rest) (is : Some bucket ≡ found) where
    entered : buckets ≡ Some bucket ∷ rest
    entered = first ∙ ap (λ (b : Option (Bucket T)). b ∷ rest) (sym is)

    pub first_filled : (0 < length bucket.items) × AreFilled rest
    first_filled = rw entered at it.filled

    pub first_counted : between ≡ length bucket.items + length (items_of rest)
    first_counted = it.counted ∙ (ap (λ (bs : List (Option (Bucket T))). length (items_of bs)) entered ∙ length-append bucket.items (items_of rest))

    pub first_ahead : (left : List T) (count : ℕ) → count ≡ length bucket.items → length left ≤ count → IsAhead left rest back (between - count)
    first_ahead left count counted few = let c = first_counted in let most = it.few in record { filled = first_filled.1; counted = omega arith; few = omega arith }

    pub first_items : length front ≡ 0 → (left : List T) (x : T) → bucket.items ≡ x ∷ left → front ++ items_of buckets ++ back ≡ x ∷ (left ++ items_of rest ++ back)
    first_items none left x are = rw (nil_from_length front none) (ap (λ (xs : List T). xs ++ back) (ap items_of entered ∙ ap (λ (xs : List T). xs ++ items_of rest) are))

    -- the bucket is entered and called from the front
    pub first_yields : (s t : Iter T) (r : Option (Bor T)) → iter_rest s ≡ bucket.items → iter_steps s r t → length front ≡ 0 → YieldsFirstRef (λ (xs : List T). xs) (front ++ items_of buckets ++ back) r (iter_rest t ++ items_of rest ++ back)
    first_yields s t None whole ended none = absurd (let some = first_filled.0 in let short = ended.0 in omega (arith, ap length whole))
    first_yields s t (Some x) whole at none = first_items none (iter_rest t) x.now (sym whole ∙ at)

  -- what is ahead of an iterator with fewer items left at its ends
  pub ahead_fewer : {front back first last : List T} {buckets : List (Option (Bucket T))} {between : ℕ} → IsAhead front buckets back between → length first ≤ length front → length last ≤ length back → IsAhead first buckets last between
  ahead_fewer it fewer fewer_back = let few = it.few in record { filled = it.filled; counted = it.counted; few = omega arith }

  -- the items ahead are those of the ends and those between
  pub length-ahead : {front back : List T} {buckets : List (Option (Bucket T))} {between : ℕ} → IsAhead front buckets back between → length front + between + length back ≡ length (front ++ items_of buckets ++ back)
  length-ahead it = rw it.counted (simp length-append)

  -- a call from the front leaves no more than there was
  pub length-steps : (s t : Iter T) (r : Option (Bor T)) → iter_steps s r t → length (iter_rest t) ≤ length (iter_rest s)
  length-steps s t None ended = omega (arith, ap (λ (u : Iter T). length (iter_rest u)) ended.1)
  length-steps s t (Some x) at = omega (arith, ap length at)

  -- and so does one from the back
  pub length-steps_back : (s t : Iter T) (r : Option (Bor T)) → iter_steps_back s r t → length (iter_rest t) ≤ length (iter_rest s)
  length-steps_back s t None ended = omega (arith, ap (λ (u : Iter T). length (iter_rest u)) ended.1)
  length-steps_back s t (Some x) at = omega (arith, ap length at, length-append (iter_rest t) (x.now ∷ []))
