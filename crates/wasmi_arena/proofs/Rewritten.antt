-- Facts on buckets of which some items were written, and nothing else.
use Rattle.std.proofs.Common.{◌≡◌, ◌≢◌, ℕ, zero, suc, ◌<◌, List, [], ◌∷◌, ◌++◌, length, get_or, set, Option, Some, None, refl, sym, ◌∙◌, ap, arith, IsSome}
use Rattle.std.proofs.lemmas.List.{length-set, get_or-set_other}
use Rattle.wasmi_arena.specs.Bucket.{Bucket}
use Rattle.wasmi_arena.specs.inner.Table.{items_of, items_in, with_item, with_items, write, write_all, refilled}
use Rattle.wasmi_arena.proofs.Refilled.{refill-over, length-refill, over-whole, drop-whole, items_of-first}

module _ {T : Type 0} where
  item_there : (items : List T) (s : ℕ) → s < length items → (item : T) × (set items s item ≡ items)
  item_there [] s filled = absurd (omega (arith, filled))
  item_there (x ∷ xs) zero filled = (x, refl)
  item_there (x ∷ xs) (suc s) filled = let rest = item_there xs s (omega (arith, filled)) in (rest.0, ap (λ (ys : List T). x ∷ ys) rest.1)

  -- a bucket that is open is one of them
  pub open_inside : (buckets : List (Option (Bucket T))) (b : ℕ) → IsSome (get_or buckets b None) → b < length buckets
  open_inside [] b is_open = let none = is_open in cc
  open_inside (bucket ∷ buckets) zero is_open = omega arith
  open_inside (bucket ∷ buckets) (suc b) is_open = let rest = open_inside buckets b is_open in omega (arith, rest)

  -- so is one that has an item in a slot
  pub filled_inside : (buckets : List (Option (Bucket T))) (b s : ℕ) → s < length (items_in (get_or buckets b None)) → b < length buckets
  filled_inside [] b s filled = absurd (omega (arith, filled))
  filled_inside (bucket ∷ buckets) zero s filled = omega arith
  filled_inside (bucket ∷ buckets) (suc b) s filled = let rest = filled_inside buckets b s filled in omega (arith, rest)

  -- with the item that it has there, a bucket is as it was
  pub item_in_slot : (bucket : Option (Bucket T)) (s : ℕ) → s < length (items_in bucket) → (item : T) × (with_item bucket s item ≡ bucket)
  item_in_slot None s filled = absurd (omega (arith, filled))
  item_in_slot (Some bucket) s filled =
      let there = item_there bucket.items s filled in
      (there.0, ap (λ (xs : List T). Some record { items = xs; capacity = bucket.capacity }) there.1)

  -- both are closed, or have as many slots and as many items
  abbrev AreLike : Option (Bucket T) → Option (Bucket T) → Type 0
  AreLike None None = Unit {0}
  AreLike None (Some other) = ⊥
  AreLike (Some bucket) None = ⊥
  AreLike (Some bucket) (Some other) = (length other.items ≡ length bucket.items) × (other.capacity ≡ bucket.capacity)

  like-own : (bucket : Option (Bucket T)) → AreLike bucket bucket
  like-own None = tt
  like-own (Some bucket) = (refl, refl)

  like-items : (bucket : Option (Bucket T)) (items : List T) → AreLike bucket (with_items bucket items)
  like-items None items = tt
  like-items (Some bucket) items = (length-refill bucket.items items, refl)

  -- so is each bucket of a run to that of another
  abbrev AllLike : List (Option (Bucket T)) → List (Option (Bucket T)) → Type 0
  AllLike [] [] = Unit {0}
  AllLike [] (other ∷ others) = ⊥
  AllLike (bucket ∷ buckets) [] = ⊥
  AllLike (bucket ∷ buckets) (other ∷ others) = AreLike bucket other × AllLike buckets others

  all_like-own : (buckets : List (Option (Bucket T))) → AllLike buckets buckets
  all_like-own [] = tt
  all_like-own (bucket ∷ buckets) = (like-own bucket, all_like-own buckets)

  all_like-set : (buckets others : List (Option (Bucket T))) (b : ℕ) (other : Option (Bucket T)) → AllLike buckets others → AreLike (get_or buckets b None) other → AllLike buckets (set others b other)
  all_like-set [] [] b other all like = tt
  all_like-set [] (next ∷ others) b other all like = absurd all
  all_like-set (bucket ∷ buckets) [] b other all like = absurd all
  all_like-set (bucket ∷ buckets) (next ∷ others) zero other all like = (like, all.1)
  all_like-set (bucket ∷ buckets) (next ∷ others) (suc b) other all like = (all.0, all_like-set buckets others b other all.1 like)

  -- a bucket written over by the items of one like it is that one
  with_items-like : (bucket other : Option (Bucket T)) (ws : List T) → AreLike bucket other → with_items bucket (items_in other ++ ws) ≡ other
  with_items-like None None ws like = refl
  with_items-like None (Some other) ws like = absurd like
  with_items-like (Some bucket) None ws like = absurd like
  with_items-like (Some bucket) (Some other) ws like =
      let is = refill-over bucket.items (other.items ++ ws) ∙ over-whole bucket.items other.items ws like.0 in
      λ i. Some record { items = is i; capacity = sym like.1 i }

  length-like : (bucket other : Option (Bucket T)) → AreLike bucket other → length (items_in other) ≡ length (items_in bucket)
  length-like None None like = refl
  length-like None (Some other) like = absurd like
  length-like (Some bucket) None like = absurd like
  length-like (Some bucket) (Some other) like = like.0

  refilled-like : (buckets others : List (Option (Bucket T))) → AllLike buckets others → refilled buckets (items_of others) ≡ others
  refilled-like [] [] all = refl
  refilled-like [] (other ∷ others) all = absurd all
  refilled-like (bucket ∷ buckets) [] all = absurd all
  refilled-like (bucket ∷ buckets) (other ∷ others) all =
      let own = items_in other in let rest = items_of others in
      rw (items_of-first other others, with_items-like bucket other rest all.0, drop-whole (length (items_in bucket)) own rest (length-like bucket other all.0))
      (ap (λ (bs : List (Option (Bucket T))). other ∷ bs) (refilled-like buckets others all.1))

  -- a run of buckets, written over by the items of what it is to be
  pub refilled-write_all : (buckets : List (Option (Bucket T))) (b : ℕ) (ws : List T) → refilled buckets (items_of (write_all buckets b ws)) ≡ write_all buckets b ws
  refilled-write_all buckets b ws =
      refilled-like buckets (write_all buckets b ws) (all_like-set buckets buckets b (with_items (get_or buckets b None) ws) (all_like-own buckets) (like-items (get_or buckets b None) ws))

  like-written : (bucket other : Option (Bucket T)) (slot : ℕ) (item : T) → AreLike bucket other → AreLike bucket (with_item other slot item)
  like-written None None slot item like = tt
  like-written None (Some other) slot item like = absurd like
  like-written (Some bucket) None slot item like = absurd like
  like-written (Some bucket) (Some other) slot item like = (length-set other.items slot item ∙ like.0, like.1)

  all_like-write : (buckets others : List (Option (Bucket T))) (b slot : ℕ) (item : T) → AllLike buckets others → AllLike buckets (write others b slot item)
  all_like-write [] [] b slot item all = tt
  all_like-write [] (next ∷ others) b slot item all = absurd all
  all_like-write (bucket ∷ buckets) [] b slot item all = absurd all
  all_like-write (bucket ∷ buckets) (next ∷ others) zero slot item all = (like-written bucket next slot item all.0, all.1)
  all_like-write (bucket ∷ buckets) (next ∷ others) (suc b) slot item all = (all.0, all_like-write buckets others b slot item all.1)

  pub refilled-write : (buckets : List (Option (Bucket T))) (b s d t : ℕ) (x y : T) → refilled buckets (items_of (write (write buckets b s x) d t y)) ≡ write (write buckets b s x) d t y
  refilled-write buckets b s d t x y =
      let once = all_like-write buckets buckets b s x (all_like-own buckets) in
      refilled-like buckets (write (write buckets b s x) d t y) (all_like-write buckets (write buckets b s x) d t y once)

  module _ (buckets : List (Option (Bucket T))) (b s d t : ℕ) (x y : T) (apart : b ≢ d) where
    -- the second write finds its bucket as it was
    pub write-apart : write (write buckets b s x) d t y ≡ set (set buckets b (with_item (get_or buckets b None) s x)) d (with_item (get_or buckets d None) t y)
    write-apart =
        let other = get_or-set_other buckets b d (with_item (get_or buckets b None) s x) None (λ same. apart (sym same)) in
        ap (λ (bucket : Option (Bucket T)). set (write buckets b s x) d (with_item bucket t y)) other
