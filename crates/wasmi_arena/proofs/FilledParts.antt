-- Facts on the items of a vector bucket by bucket.
use Rattle.std.proofs.Common.{◌≡◌, ℕ, zero, suc, ◌+◌, ◌*◌, ◌<◌, ◌≤◌, List, [], ◌∷◌, ◌++◌, length, map, take, drop, Option, Some, None, refl, sym, ◌∙◌, ap, arith, length-drop, add-zero, zero-add, add-one, append-nil, inl, inr}
use Rattle.std.proofs.lemmas.Bool.{cases_lt}
use Rattle.std.proofs.Math.ListN.{drop_of_length-le}
use Rattle.std.proofs.lemmas.List.{take_all, length-take, take-append-le, take-append-drop, drop-drop}
use Rattle.std.specs.List.{range_with_len, flat_map}
use Rattle.wasmi_arena.specs.Geometry.{size, start, max_len, fewest}
use Rattle.wasmi_arena.specs.Bucket.{Bucket}
use Rattle.wasmi_arena.specs.StableVec.{filled_part, filled_parts}
use Rattle.wasmi_arena.specs.inner.Ahead.{joined, AreSome, HasAhead}
use Rattle.wasmi_arena.specs.inner.Table.{items_of, items_in, IsTable, AreFilled, IsLaidOut, HasBuckets}
use Rattle.wasmi_arena.proofs.Doubling.{size-suc, fewest_is_least}
use Rattle.wasmi_arena.proofs.Table.{items_of-IsTable}
use Rattle.wasmi_arena.proofs.LaidOut.{IsTable-open, AreFilled-open, open-le_27}

module _ {T : Type 0} where
  -- these are the parts of the items: each has some, the first `width` of them, each next one twice as
  -- many
  abbrev pub AreParts : ℕ → List T → List (List T) → Type 0
  AreParts width items [] = items ≡ []
  AreParts width items (part ∷ parts) = (0 < length items) × (part ≡ take width items) × AreParts (2 * width) (drop width items) parts

  -- the items have one list of parts
  AreParts-unique : (width : ℕ) (items : List T) (ps qs : List (List T)) → AreParts width items ps → AreParts width items qs → ps ≡ qs
  AreParts-unique width items [] [] a b = refl
  AreParts-unique width items [] (q ∷ qs) a b = absurd (let some = b.0 in omega (arith, ap length a))
  AreParts-unique width items (p ∷ ps) [] a b = absurd (let some = a.0 in omega (arith, ap length b))
  AreParts-unique width items (p ∷ ps) (q ∷ qs) a b = let rest = AreParts-unique (2 * width) (drop width items) ps qs a.2 b.2 in λ i. (a.1 ∙ sym b.1) i ∷ rest i

  -- those of the buckets from one on
  AreParts-range : (items : List T) (b n : ℕ) → length items ≤ start (b + n) → ((c : ℕ) → c < b + n → start c < length items) → AreParts (size b) (drop (start b) items) (map (filled_part items) (range_with_len b n))
  AreParts-range items b zero all early = drop_of_length-le items {i = start b} (rw add-zero at all)
  AreParts-range items b (suc n) all early =
      let next : b + suc n ≡ b + 1 + n = omega arith in
      let rest = AreParts-range items (b + 1) n (rw next at all) (λ c below. early c (omega arith)) in
      let twice : size (b + 1) ≡ 2 * size b = rw add-one (size-suc b) in
      let seam : drop (start (b + 1)) items ≡ drop (size b) (drop (start b) items) = rw (add-one, drop-drop) refl in
      (let first = early b (omega arith) in omega (arith, length-drop (start b) items), refl, rw (twice, seam) at rest)

  -- the filled parts are those of the first buckets
  pub AreParts-filled_parts : (items : List T) → length items ≤ max_len → AreParts 32 items (filled_parts items)
  AreParts-filled_parts items few =
      let least = fewest_is_least (length items) few in
      let all : length items ≤ start (0 + fewest (length items)) = rw zero-add least.enough in
      AreParts-range items 0 (fewest (length items)) all (λ c below. elim (cases_lt (start c) (length items)) [
        | inl early ↦ early
        | inr late ↦ absurd (let b = least.least c late in omega arith)
      ])

  -- the buckets of a table have them
  AreParts-items_in : (width : ℕ) (items : List T) (buckets : List (Option (Bucket T))) → IsTable width items buckets → AreFilled buckets → AreParts width items (map items_in buckets)
  AreParts-items_in width items [] table filled = table
  AreParts-items_in width items (None ∷ buckets) table filled = absurd filled
  AreParts-items_in width [] (Some bucket ∷ buckets) table filled = cc
  AreParts-items_in width (x ∷ xs) (Some bucket ∷ buckets) table filled = (omega arith, ap items_in table.0, AreParts-items_in (2 * width) (drop width (x ∷ xs)) buckets table.1 filled.1)

  -- the open buckets of a vector are filled, and have its parts
  module _ {buckets : List (Option (Bucket T))} {open_buckets slots len : ℕ} (v : IsLaidOut buckets open_buckets slots len) where
    pub parts_open : AreFilled (take open_buckets buckets) × (map items_in (take open_buckets buckets) ≡ filled_parts (items_of buckets))
    parts_open =
        let open_table = IsTable-open v in
        let filled = AreFilled-open v in
        let few : length (items_of buckets) ≤ max_len = rw (← v.items_counted) v.few_items in
        rw v.fewest_open (
          filled,
          AreParts-unique 32 (items_of buckets) (map items_in (take (fewest len) buckets)) (filled_parts (items_of buckets))
              (AreParts-items_in 32 (items_of buckets) (take (fewest len) buckets) open_table filled) (AreParts-filled_parts (items_of buckets) few),
        )

  -- the buckets of a vector, as its fields say them
  pub HasBuckets-laid : (items : List T) (buckets : List (Option (Bucket T))) → HasBuckets items buckets → IsLaidOut buckets (fewest (length items)) (start (fewest (length items))) (length items)
  HasBuckets-laid items buckets has = let are = items_of-IsTable 32 items buckets has.table in record {
    buckets_counted = has.counted;
    table = rw are has.table;
    items_counted = rw are refl;
    few_items = has.few_items;
    fewest_open = refl;
    slots_counted = refl;
  }

  pub HasBuckets-items : (items : List T) (buckets : List (Option (Bucket T))) → HasBuckets items buckets → items_of buckets ≡ items
  HasBuckets-items items buckets has = items_of-IsTable 32 items buckets has.table

  pub HasBuckets-own : (items : List T) (buckets : List (Option (Bucket T))) → HasBuckets items buckets → HasBuckets (items_of buckets) buckets
  HasBuckets-own items buckets has = rw (HasBuckets-items items buckets has) has

  pub HasBuckets-open : (items : List T) (buckets : List (Option (Bucket T))) → HasBuckets items buckets → fewest (length items) ≤ length buckets
  HasBuckets-open items buckets has = let few = open-le_27 (HasBuckets-laid items buckets has) in omega (arith, few, has.counted)

  -- the first of them, as many as are open, are filled, and have its parts
  pub parts_lent : {items : List T} {buckets : List (Option (Bucket T))} (front back : List (Option (Bucket T))) → HasBuckets items buckets → buckets ≡ front ++ back → length front ≡ fewest (length items) → AreFilled front × (map items_in front ≡ filled_parts items)
  parts_lent {items} {buckets} front back has cut counted =
      let whole = parts_open (HasBuckets-laid items buckets has) in
      let first : take (fewest (length items)) buckets ≡ front = rw (cut, ← counted, take-append-le (length front) front back (omega arith)) (take_all (length front) front (omega arith)) in
      (rw (← first) whole.0, rw (← first) (whole.1 ∙ ap filled_parts (items_of-IsTable 32 items buckets has.table)))

  -- one after another, the parts are the items
  flat_map-AreParts : (width : ℕ) (items : List T) (parts : List (List T)) → AreParts width items parts → flat_map (λ part. part) parts ≡ items
  flat_map-AreParts width items [] are = sym are
  flat_map-AreParts width items (part ∷ parts) are = ap (λ (xs : List T). part ++ xs) (flat_map-AreParts (2 * width) (drop width items) parts are.2) ∙ (ap (λ (xs : List T). xs ++ drop width items) are.1 ∙ take-append-drop width items)

  pub flat_map-filled_parts : (items : List T) → length items ≤ max_len → flat_map (λ part. part) (filled_parts items) ≡ items
  flat_map-filled_parts items few = flat_map-AreParts 32 items (filled_parts items) (AreParts-filled_parts items few)

  AreSome-AreParts : (width : ℕ) (items : List T) (parts : List (List T)) → 0 < width → AreParts width items parts → AreSome parts
  AreSome-AreParts width items [] pos are = tt
  AreSome-AreParts width items (part ∷ parts) pos are =
      (let some = are.0 in omega (arith, ap length are.1, length-take width items), AreSome-AreParts (2 * width) (drop width items) parts (omega arith) are.2)

  -- an iterator that is at its start has all parts ahead
  pub parts_ahead : {items front back : List T} {len : ℕ} → length items ≤ max_len → len ≡ length items → front ≡ [] → back ≡ [] → HasAhead front (filled_parts items) back len × (front ++ joined (filled_parts items) ++ back ≡ items)
  parts_ahead {items} {front} {back} {len} few counted no_front no_back =
      let are = flat_map-filled_parts items few in (
        record { filled = AreSome-AreParts 32 items (filled_parts items) (omega arith) (AreParts-filled_parts items few); counted = counted ∙ ap length (sym are); few = omega (arith, ap length no_front, ap length no_back) },
        rw (no_front, no_back, append-nil (joined (filled_parts items))) are,
      )
