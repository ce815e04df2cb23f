-- What the items of a loan are once what it lent on has ended. No public clause cites this module.
use Rattle.std.specs.Prelude.{ℕ, List, slice_set}
use Rattle.std.specs.Borrow.{Fml, RattleType, MutBor, Array, follows, follows_both}
use Rattle.wasmi_arena.specs.inner.Table.{items_of, write, write_all}
use Rattle.wasmi_arena.specs.declared.raw.loan.ItemsLoan.{ItemsLoan}

module _ (R A : RattleType) (loan : ItemsLoan R.Denot A.Denot) where
  -- those of that bucket are what was written last through the slice, and no other changes
  abbrev pub lends_bucket : ℕ → MutBor (List R.Denot) → Fml
  lends_bucket bucket slice = follows (Array R 0) (Array R 0) loan.name slice.ghost_name (λ last. items_of (write_all loan.buckets bucket last))

  -- they are F of what was written last through the two references
  abbrev lends_two : MutBor R.Denot × MutBor R.Denot → (R.Denot → R.Denot → List R.Denot) → Fml
  lends_two pair = follows_both (Array R 0) R R loan.name pair.0.ghost_name pair.1.ghost_name

  -- those in the slots of two buckets are what was written last through the references, and no other changes
  abbrev pub lends_slots : ℕ → ℕ → ℕ → ℕ → MutBor R.Denot × MutBor R.Denot → Fml
  lends_slots b s d t pair = lends_two pair (λ x y. items_of (write (write loan.buckets b s x) d t y))

  -- those at two indices are what was written last through the references, and no other changes
  abbrev pub lends_pair : ℕ → ℕ → MutBor R.Denot × MutBor R.Denot → Fml
  lends_pair first second pair = lends_two pair (λ x y. slice_set (slice_set (items_of loan.buckets) first x) second y)
