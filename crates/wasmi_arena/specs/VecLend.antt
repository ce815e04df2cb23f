-- What a stable vector is once a `&mut` to an item of it has ended.
use Rattle.std.specs.Prelude.{ℕ, List, length, slice_set, Option, Result}
use Rattle.std.specs.Borrow.{Fml, GName, RattleType, MutBor, Lends, LendsIf, follows}
use Rattle.std.specs.List.{refill}
use Rattle.std.specs.declared.alloc.Allocator.{Ghosts}
use Rattle.wasmi_arena.specs.Pairs.{LendsBothIfOk, with_both}
use Rattle.wasmi_arena.specs.declared.error.ArenaError.{ArenaError}
use Rattle.wasmi_arena.specs.contracts.stable_vec.StableVec.{the_row}

module _ (R A : RattleType) (alloc : Ghosts A.Denot) where
  -- the item at that index is what was written last through the reference, and no other changes
  abbrev pub lends_index : MutBor (List R.Denot) → ℕ → MutBor R.Denot → Fml
  lends_index vec index item = Lends (the_row R A alloc) R vec item (λ last. slice_set vec.now index last)

  -- the same where there is such an item, and else nothing changes.
  -- `*v.get_mut(1)? = 9` on 7, 8: 7, 9.
  abbrev pub lends_get : MutBor (List R.Denot) → ℕ → Option (MutBor R.Denot) → Fml
  lends_get vec index item = LendsIf (the_row R A alloc) R vec item (λ last. slice_set vec.now index last) vec.now

  -- each item is what was written last through the loan of that name, and there are as many.
  -- Of 100 items: 100, and so 3 buckets.
  abbrev pub lends_items : MutBor (List R.Denot) → GName → Fml
  lends_items vec loan = follows (the_row R A alloc) (the_row R A alloc) vec.ghost_name loan (refill (length vec.now) vec.now)

  -- the items at the two indices in a list are what was written last through the references, where there are two,
  -- and no other changes.
  -- `v.get_disjoint_mut([1, 0])` on 7, 8, then 9 and 6: 6, 9.
  abbrev pub lends_both : MutBor (List R.Denot) → List ℕ → Result (MutBor R.Denot × MutBor R.Denot) ArenaError → Fml
  lends_both vec indices pair = LendsBothIfOk (the_row R A alloc) R vec pair (with_both (λ index. index) vec.now indices)
