-- What an iterator over a vector's items has ahead of it, part by part. No public clause cites this
-- module.
use Rattle.std.specs.Prelude.{◌≡◌, ℕ, ◌+◌, ◌<◌, ◌≤◌, List, [], ◌∷◌, length, Option, Some, None}
use Rattle.std.specs.List.{flat_map}
use Rattle.wasmi_arena.specs.Geometry.{max_len}
use Rattle.wasmi_arena.specs.Bucket.{Bucket}
use Rattle.wasmi_arena.specs.inner.Table.{items_of, AreFilled}

module _ {T : Type 0} where
  -- the items of the parts, one part after another
  abbrev pub joined : List (List T) → List T
  joined parts = flat_map (λ part. part) parts

  -- the items of the bucket in hand, none where there isn't one
  abbrev pub in_hand : Option (List T) → List T
  in_hand None = []
  in_hand (Some items) = items

  -- each part has an item
  abbrev pub AreSome : List (List T) → Type 0
  AreSome [] = Unit {0}
  AreSome (part ∷ parts) = (0 < length part) × AreSome parts

  -- these items of a first part are left, then these parts, which hold `between`, and then these items of
  -- a last part
  pub record HasAhead (front : List T) (parts : List (List T)) (back : List T) (between : ℕ) : Type 0 where
    pub filled : AreSome parts
    pub counted : between ≡ length (joined parts)
    pub few : length front + between + length back ≤ max_len

  -- the same of buckets, each of them open: where the iterator reads or takes items, and lends none
  pub record IsAhead (front : List T) (buckets : List (Option (Bucket T))) (back : List T)
      (between : ℕ) : Type 0 where
    pub filled : AreFilled buckets
    pub counted : between ≡ length (items_of buckets)
    pub few : length front + between + length back ≤ max_len
