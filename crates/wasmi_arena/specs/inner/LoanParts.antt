-- A loan of items by its buckets: cut in two, and lent bucket by bucket. No public clause cites this module.
use Rattle.std.specs.Prelude.{◌≡◌, ℕ, List, [], ◌++◌, map, length, Option, Some, None}
use base.Fml.{GName}
use Rattle.wasmi_arena.specs.inner.Table.{items_in, AreFilled}
use Rattle.wasmi_arena.specs.declared.raw.loan.ItemsLoan.{ItemsLoan}

module _ {T A : Type 0} where
  -- a loan is cut in two, after so many buckets
  pub record IsCut (loan front back : ItemsLoan T A) (count : ℕ) : Type 0 where
    pub buckets : loan.buckets ≡ front.buckets ++ back.buckets
    pub counted : length front.buckets ≡ count
    pub front_whole : front.whole ≡ loan.whole
    pub back_whole : back.whole ≡ loan.whole

  -- the items of each lent bucket, and the name of the whole loan
  abbrev pub parts_of : Option (ItemsLoan T A) → List (List T) × GName
  parts_of None = ([], 0)
  parts_of (Some loan) = (map items_in loan.buckets, loan.whole)

  -- so many buckets are lent, each with an item
  abbrev pub IsLent : Option (ItemsLoan T A) → ℕ → Type 0
  IsLent None count = ⊥
  IsLent (Some loan) count = (length loan.buckets ≡ count) × AreFilled loan.buckets
