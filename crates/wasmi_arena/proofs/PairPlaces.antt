-- Two items of a vector's buckets, by their places.
use Rattle.std.proofs.Common.{◌≡◌, ◌≢◌, ℕ, ◌+◌, ◌<◌, List, length, get_or, set, slice_get, Option, None, sym, ◌∙◌, ap}
use Rattle.std.proofs.lemmas.List.{length-set}
use Rattle.std.specs.List.{refill}
use Rattle.wasmi_arena.specs.Bucket.{Bucket}
use Rattle.wasmi_arena.specs.Geometry.{start, max_len, fewest, IsPlace}
use Rattle.wasmi_arena.specs.inner.Table.{items_of, items_in, write, IsLaidOut, HasBuckets}
use Rattle.wasmi_arena.proofs.FilledParts.{HasBuckets-laid, HasBuckets-items}
use Rattle.wasmi_arena.proofs.LaidOut.{index-lt_max, items_of-written, IsLaidOut-written, slot_filled, slice_get-slot}
use Rattle.wasmi_arena.proofs.Refilled.{refill-whole}

module _ {T : Type 0} where
  -- a vector's items once two of them were written through a loan
  pub ends_both : (items : List T) (buckets : List (Option (Bucket T))) → HasBuckets items buckets → (i j : ℕ) (x y : T) → refill (length items) items (set (set (items_of buckets) i x) j y) ≡ set (set items i x) j y
  ends_both items buckets has i j x y =
      rw (HasBuckets-items items buckets has) (refill-whole items (set (set items i x) j y) (length-set (set items i x) j y ∙ length-set items i x))

  module _ (buckets : List (Option (Bucket T))) (has : HasBuckets (items_of buckets) buckets) where
    laid : IsLaidOut buckets (fewest (length (items_of buckets))) (start (fewest (length (items_of buckets)))) (length (items_of buckets))
    laid = HasBuckets-laid (items_of buckets) buckets has

    pub below_max : (i : ℕ) → i < length (items_of buckets) → i < max_len
    below_max i below = index-lt_max laid below

    module _ (i b s : ℕ) (place : IsPlace i b s) (below : i < length (items_of buckets)) where
      pub filled : s < length (items_in (get_or buckets b None))
      filled = slot_filled laid place below

      pub reads : slice_get (items_in (get_or buckets b None)) s ≡ slice_get (items_of buckets) i
      reads = slice_get-slot laid place below

    module _ (i b s : ℕ) (first : IsPlace i b s) (one_in : i < length (items_of buckets)) (j d t : ℕ) (second : IsPlace j d t) (other_in : j < length (items_of buckets)) where
      -- two indices in one bucket have two slots
      pub slots_apart : i ≢ j → b ≡ d → s ≢ t
      slots_apart apart same alike = apart (sym first.index_is ∙ ((λ k. start (same k) + alike k) ∙ second.index_is))

      -- what is written in their slots stands at the indices
      pub ends : (x y : T) → items_of (write (write buckets b s x) d t y) ≡ set (set (items_of buckets) i x) j y
      ends x y =
          items_of-written (IsLaidOut-written laid first one_in x) second other_in y
          ∙ ap (λ (xs : List T). set xs j y) (items_of-written laid first one_in x)
