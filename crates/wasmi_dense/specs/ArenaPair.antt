-- What an arena in one vector is once two `&mut` to items of it have ended.
use Rattle.std.specs.Prelude.{List, Result}
use Rattle.std.specs.Borrow.{Fml, RattleType, MutBor}
use Rattle.std.specs.declared.alloc.Allocator as alloc
use Rattle.wasmi_arena.specs.Arena.{ArenaState}
use Rattle.wasmi_arena.specs.Pairs.{LendsBothIfOk, with_both}
use Rattle.wasmi_arena.specs.declared.error.ArenaError.{ArenaError}
use Rattle.wasmi_arena.specs.declared.key.ArenaKey as key
use Rattle.wasmi_dense.specs.contracts.arena.Arena.{the_row}

module _ (K R A : RattleType) (keys : key.Ghosts K.Denot) (heap : alloc.Ghosts A.Denot) where
  -- with two references, the items under the keys are what was written last through them, and nothing
  -- else changes. After an error the arena is as before.
  -- 9 under key 0 and 6 under key 1 of 7, 8: 9, 6.
  abbrev pub lends_both : MutBor (ArenaState R.Denot) → List K.Denot → Result (MutBor R.Denot × MutBor R.Denot) ArenaError → Fml
  lends_both arena both pair =
      LendsBothIfOk (the_row K R A keys heap) R arena pair (λ x y. record arena.now { items = with_both keys.keys.number arena.now.items both x y })
