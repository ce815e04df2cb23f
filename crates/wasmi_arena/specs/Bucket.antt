-- What a contract sees of a bucket.
use Rattle.std.specs.Prelude.{ℕ, List, refl}
use Rattle.std.specs.Coded.{Coded, code_by, coded×, coded_list, coded_ℕ}

-- the items of its filled part, in order, and how many slots it has, filled and free.
-- After 200 pushes bucket 2 has 104 items and 128 slots.
pub record Bucket (T : Type 0) : Type 0 where
  pub items : List T
  pub capacity : ℕ

module _ {T : Type 0} where
  -- a bucket of these items and so many slots
  abbrev pub bucket : List T → ℕ → Bucket T
  bucket items capacity = record { items = items; capacity = capacity }

  -- a bucket is stored as the pair of its fields
  abbrev pub bucket_code : Coded T → Coded (Bucket T)
  bucket_code code =
      code_by (List T × ℕ) (coded× (coded_list code) coded_ℕ) (λ b. (b.items, b.capacity)) (λ p. bucket p.0 p.1) (λ _. refl)
