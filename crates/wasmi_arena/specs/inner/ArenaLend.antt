-- What a stable arena is once `&mut`s to two items of it have ended.
use Rattle.std.specs.Prelude.{ℕ, List, Result, slice_set}
use Rattle.std.specs.Borrow.{Fml, RattleType, MutBor, LendsBoth}
use Rattle.std.specs.declared.alloc.Allocator as alloc
use Rattle.wasmi_arena.specs.Pairs.{LendsBothIfOk}
use Rattle.wasmi_arena.specs.declared.error.ArenaError.{ArenaError}
use Rattle.wasmi_arena.specs.declared.key.ArenaKey as key
use Rattle.wasmi_arena.specs.contracts.stable_arena.StableArena.{the_row}

module _ (K R A : RattleType) (keys : key.Ghosts K.Denot) (heap : alloc.Ghosts A.Denot) where
  -- the items at the two positions are what was written last through the references, and no other
  -- changes
  abbrev pub lends_two : MutBor (List R.Denot) → ℕ → ℕ → MutBor R.Denot × MutBor R.Denot → Fml
  lends_two arena first second pair = LendsBoth (the_row K R A keys heap) R R arena pair (λ x y. slice_set (slice_set arena.now first x) second y)

  -- the same where there are two references, and else nothing changes
  abbrev pub lends_pair : MutBor (List R.Denot) → ℕ → ℕ → Result (MutBor R.Denot × MutBor R.Denot) ArenaError → Fml
  lends_pair arena first second pair = LendsBothIfOk (the_row K R A keys heap) R arena pair (λ x y. slice_set (slice_set arena.now first x) second y)
