-- Facts on buckets whose items were written over.
use Rattle.std.proofs.Common.{◌≡◌, ℕ, zero, suc, ◌*◌, List, [], ◌∷◌, ◌++◌, length, take, drop, Option, Some, None, refl, sym, ◌∙◌, ap, subst, arith, append_assoc, append-nil}
use Rattle.std.proofs.lemmas.List.{take_all}
use Rattle.std.specs.List.{refill}
use Rattle.wasmi_arena.specs.Bucket.{Bucket}
use Rattle.wasmi_arena.specs.inner.Table.{items_of, items_in, with_items, refilled, bucket_from, IsTable, IsLaidOut}
use Rattle.wasmi_arena.proofs.Table.{items_in-bucket_from}

module _ {T : Type 0} where
  -- these items, with the first of them written over as far as the others go
  abbrev over : List T → List T → List T
  over [] ws = []
  over (x ∷ xs) [] = x ∷ xs
  over (x ∷ xs) (w ∷ ws) = w ∷ over xs ws

  pub refill-over : (xs ws : List T) → refill (length xs) xs ws ≡ over xs ws
  refill-over [] ws = refl
  refill-over (x ∷ xs) [] = take_all (length (x ∷ xs)) (x ∷ xs) (omega arith)
  refill-over (x ∷ xs) (w ∷ ws) = ap (λ (ys : List T). w ∷ ys) (refill-over xs ws)

  length-over : (xs ws : List T) → length (over xs ws) ≡ length xs
  length-over [] ws = refl
  length-over (x ∷ xs) [] = refl
  length-over (x ∷ xs) (w ∷ ws) = ap suc (length-over xs ws)

  pub length-refill : (xs ws : List T) → length (refill (length xs) xs ws) ≡ length xs
  length-refill xs ws = ap length (refill-over xs ws) ∙ length-over xs ws

  over-none : (xs : List T) → over xs [] ≡ xs
  over-none [] = refl
  over-none (x ∷ xs) = refl

  over-append : (xs ys ws : List T) → over (xs ++ ys) ws ≡ over xs ws ++ over ys (drop (length xs) ws)
  over-append [] ys ws = refl
  over-append (x ∷ xs) ys [] = ap (λ (zs : List T). x ∷ xs ++ zs) (sym (over-none ys))
  over-append (x ∷ xs) ys (w ∷ ws) = ap (λ (zs : List T). w ∷ zs) (over-append xs ys ws)

  pub over-whole : (xs us ws : List T) → length us ≡ length xs → over xs (us ++ ws) ≡ us
  over-whole [] [] ws same = refl
  over-whole [] (u ∷ us) ws same = absurd (omega arith)
  over-whole (x ∷ xs) [] ws same = absurd (omega arith)
  over-whole (x ∷ xs) (u ∷ us) ws same = ap (λ (ys : List T). u ∷ ys) (over-whole xs us ws (omega arith))

  take-over : (n : ℕ) (xs ws : List T) → over (take n xs) ws ≡ take n (over xs ws)
  take-over zero xs ws = refl
  take-over (suc n) [] ws = refl
  take-over (suc n) (x ∷ xs) [] = refl
  take-over (suc n) (x ∷ xs) (w ∷ ws) = ap (λ (ys : List T). w ∷ ys) (take-over n xs ws)

  drop-over : (n : ℕ) (xs ws : List T) → over (drop n xs) (drop (length (take n xs)) ws) ≡ drop n (over xs ws)
  drop-over zero xs ws = refl
  drop-over (suc n) [] ws = refl
  drop-over (suc n) (x ∷ xs) [] = over-none (drop n xs)
  drop-over (suc n) (x ∷ xs) (w ∷ ws) = drop-over n xs ws

  pub drop-whole : (n : ℕ) (us ws : List T) → length us ≡ n → drop n (us ++ ws) ≡ ws
  drop-whole zero [] ws same = refl
  drop-whole zero (u ∷ us) ws same = absurd (omega arith)
  drop-whole (suc n) [] ws same = absurd (omega arith)
  drop-whole (suc n) (u ∷ us) ws same = drop-whole n us ws (omega arith)

  -- a list written over by as many items is these
  pub refill-whole : (xs ws : List T) → length ws ≡ length xs → refill (length xs) xs ws ≡ ws
  refill-whole xs ws same = refill-over xs ws ∙ (ap (λ (vs : List T). over xs vs) (sym (append-nil ws)) ∙ over-whole xs ws [] same)

  -- the first bucket, before the others
  pub items_of-first : (bucket : Option (Bucket T)) (buckets : List (Option (Bucket T))) → items_of (bucket ∷ buckets) ≡ items_in bucket ++ items_of buckets
  items_of-first None buckets = refl
  items_of-first (Some bucket) buckets = refl

  items_in-with_items : (bucket : Option (Bucket T)) (ws : List T) → items_in (with_items bucket ws) ≡ over (items_in bucket) ws
  items_in-with_items None ws = refl
  items_in-with_items (Some bucket) ws = refill-over bucket.items ws

  pub length-with_items : (bucket : Option (Bucket T)) (ws : List T) → length (items_in (with_items bucket ws)) ≡ length (items_in bucket)
  length-with_items bucket ws = ap length (items_in-with_items bucket ws) ∙ length-over (items_in bucket) ws

  -- a bucket is written over by as many items as it has, and by no more
  with_items-whole : (bucket : Option (Bucket T)) (us ws : List T) → length us ≡ length (items_in bucket) → with_items bucket (us ++ ws) ≡ with_items bucket us
  with_items-whole None us ws same = refl
  with_items-whole (Some bucket) us ws same =
      let alone = refill-over bucket.items us ∙ (ap (λ (vs : List T). over bucket.items vs) (sym (append-nil us)) ∙ over-whole bucket.items us [] same) in
      ap (λ (xs : List T). Some record { items = xs; capacity = bucket.capacity }) (refill-over bucket.items (us ++ ws) ∙ (over-whole bucket.items us ws same ∙ sym alone))

  -- written over by its own items, a bucket is as it was
  with_items-own : (bucket : Option (Bucket T)) → with_items bucket (items_in bucket) ≡ bucket
  with_items-own None = refl
  with_items-own (Some bucket) =
      ap (λ (xs : List T). Some record { items = xs; capacity = bucket.capacity }) (refill-over bucket.items bucket.items ∙ (ap (λ (vs : List T). over bucket.items vs) (sym (append-nil bucket.items)) ∙ over-whole bucket.items bucket.items [] refl))

  -- twice written over, it has the items that came last
  with_items-twice : (bucket : Option (Bucket T)) (ws us : List T) → with_items bucket (items_in (with_items bucket ws) ++ us) ≡ with_items bucket ws
  with_items-twice None ws us = refl
  with_items-twice (Some bucket) ws us =
      ap (λ (xs : List T). Some record { items = xs; capacity = bucket.capacity }) (refill-over bucket.items (refill (length bucket.items) bucket.items ws ++ us)
      ∙ over-whole bucket.items (refill (length bucket.items) bucket.items ws) us (length-with_items (Some bucket) ws))

  items_over : (buckets : List (Option (Bucket T))) (ws : List T) → items_of (refilled buckets ws) ≡ over (items_of buckets) ws
  items_over [] ws = refl
  items_over (bucket ∷ buckets) ws =
      let rest = drop (length (items_in bucket)) ws in
      items_of-first (with_items bucket ws) (refilled buckets rest)
      ∙ (ap (λ (xs : List T). xs ++ items_of (refilled buckets rest)) (items_in-with_items bucket ws)
      ∙ (ap (λ (xs : List T). over (items_in bucket) ws ++ xs) (items_over buckets rest)
      ∙ (sym (over-append (items_in bucket) (items_of buckets) ws) ∙ ap (λ (xs : List T). over xs ws) (sym (items_of-first bucket buckets)))))

  -- the buckets have these items, as far as they go, and as many as before
  pub items_of-refilled : (buckets : List (Option (Bucket T))) (ws : List T) → items_of (refilled buckets ws) ≡ refill (length (items_of buckets)) (items_of buckets) ws
  items_of-refilled buckets ws = items_over buckets ws ∙ sym (refill-over (items_of buckets) ws)

  pub length-items_of-refilled : (buckets : List (Option (Bucket T))) (ws : List T) → length (items_of (refilled buckets ws)) ≡ length (items_of buckets)
  length-items_of-refilled buckets ws = ap length (items_over buckets ws) ∙ length-over (items_of buckets) ws

  pub length-refilled : (buckets : List (Option (Bucket T))) (ws : List T) → length (refilled buckets ws) ≡ length buckets
  length-refilled [] ws = refl
  length-refilled (bucket ∷ buckets) ws = ap suc (length-refilled buckets (drop (length (items_in bucket)) ws))

  -- written over by their own items, the buckets are as they were
  pub refilled-own : (buckets : List (Option (Bucket T))) → refilled buckets (items_of buckets) ≡ buckets
  refilled-own [] = refl
  refilled-own (bucket ∷ buckets) =
      let own = items_in bucket in let rest = items_of buckets in
      rw (items_of-first bucket buckets, with_items-whole bucket own rest refl, with_items-own bucket, drop-whole (length own) own rest refl) (ap (λ (bs : List (Option (Bucket T))). bucket ∷ bs) (refilled-own buckets))

  -- two runs of buckets, each written over
  pub refilled-append : (front back : List (Option (Bucket T))) (us ws : List T) → refilled (front ++ back) (items_of (refilled front us) ++ ws) ≡ refilled front us ++ refilled back ws
  refilled-append [] back us ws = refl
  refilled-append (bucket ∷ front) back us ws =
      let rest = drop (length (items_in bucket)) us in let first = items_in (with_items bucket us) in let others = items_of (refilled front rest) in
      let parts : items_of (refilled (bucket ∷ front) us) ++ ws ≡ first ++ (others ++ ws) = ap (λ (xs : List T). xs ++ ws) (items_of-first (with_items bucket us) (refilled front rest)) ∙ append_assoc first others ws in
      rw (parts, with_items-twice bucket us (others ++ ws), drop-whole (length (items_in bucket)) first (others ++ ws) (length-with_items bucket us))
      (ap (λ (bs : List (Option (Bucket T))). with_items bucket us ∷ bs) (refilled-append front back rest ws))

  -- a table written over is the table of what its items are now
  with_items-bucket_from : (width : ℕ) (items ws : List T) → with_items (bucket_from width items) ws ≡ bucket_from width (over items ws)
  with_items-bucket_from width [] ws = refl
  with_items-bucket_from width (x ∷ xs) [] = ap (λ (ys : List T). Some record { items = ys; capacity = width }) (refill-over (take width (x ∷ xs)) [] ∙ take-over width (x ∷ xs) [])
  with_items-bucket_from width (x ∷ xs) (w ∷ ws) = ap (λ (ys : List T). Some record { items = ys; capacity = width }) (refill-over (take width (x ∷ xs)) (w ∷ ws) ∙ take-over width (x ∷ xs) (w ∷ ws))

  IsTable-over : (width : ℕ) (items : List T) (buckets : List (Option (Bucket T))) (ws : List T) → IsTable width items buckets → IsTable width (over items ws) (refilled buckets ws)
  IsTable-over width items [] ws table = rw table refl
  IsTable-over width items (bucket ∷ buckets) ws table =
      let held = ap items_in table.0 ∙ items_in-bucket_from width items in
      let rest = IsTable-over (2 * width) (drop width items) buckets (drop (length (items_in bucket)) ws) table.1 in
      let seam = ap (λ (xs : List T). over (drop width items) (drop (length xs) ws)) held ∙ drop-over width items ws in (
        ap (λ (b : Option (Bucket T)). with_items b ws) table.0 ∙ with_items-bucket_from width items ws,
        subst (λ (xs : List T). IsTable (2 * width) xs (refilled buckets (drop (length (items_in bucket)) ws))) seam rest,
      )

  pub IsLaidOut-refilled : (buckets : List (Option (Bucket T))) (open_buckets slots len : ℕ) → IsLaidOut buckets open_buckets slots len → (ws : List T) → IsLaidOut (refilled buckets ws) open_buckets slots len
  IsLaidOut-refilled buckets open_buckets slots len v ws = record {
    buckets_counted = length-refilled buckets ws ∙ v.buckets_counted;
    table = subst (λ (xs : List T). IsTable 32 xs (refilled buckets ws)) (sym (items_over buckets ws)) (IsTable-over 32 (items_of buckets) buckets ws v.table);
    items_counted = v.items_counted ∙ sym (length-items_of-refilled buckets ws);
    few_items = v.few_items;
    fewest_open = v.fewest_open;
    slots_counted = v.slots_counted;
  }
