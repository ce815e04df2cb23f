-- What a stable vector is once `&mut`s to two items of it have ended.
use Rattle.std.specs.Prelude.{ℕ, List, slice_set, Result}
use Rattle.std.specs.Borrow.{Fml, RattleType, MutBor, LendsBoth}
use Rattle.std.specs.declared.alloc.Allocator.{Ghosts}
use Rattle.wasmi_arena.specs.Pairs.{LendsBothIfOk}
use Rattle.wasmi_arena.specs.declared.error.ArenaError.{ArenaError}
use Rattle.wasmi_arena.specs.contracts.stable_vec.StableVec.{the_row}

module _ (R A : RattleType) (alloc : Ghosts A.Denot) where
  -- the items at the two indices are what was written last through the references, and no other changes
  abbrev pub lends_two : MutBor (List R.Denot) → ℕ → ℕ → MutBor R.Denot × MutBor R.Denot → Fml
  lends_two vec first second pair = LendsBoth (the_row R A alloc) R R vec pair (λ x y. slice_set (slice_set vec.now first x) second y)

  -- the same where there are two references, and else nothing changes
  abbrev pub lends_pair : MutBor (List R.Denot) → ℕ → ℕ → Result (MutBor R.Denot × MutBor R.Denot) ArenaError → Fml
  lends_pair vec first second pair = LendsBothIfOk (the_row R A alloc) R vec pair (λ x y. slice_set (slice_set vec.now first x) second y)
