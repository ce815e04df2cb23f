-- What an arena in one vector is once a `&mut` to items of it has ended.
use Rattle.std.specs.Prelude.{Result, slice_set}
use Rattle.std.specs.Borrow.{Fml, GName, RattleType, MutBor, Array, Lends, LendsIfOk, follows}
use Rattle.std.specs.declared.alloc.Allocator as alloc
use Rattle.wasmi_arena.specs.Arena.{ArenaState}
use Rattle.wasmi_arena.specs.declared.error.ArenaError.{ArenaError}
use Rattle.wasmi_arena.specs.declared.key.ArenaKey as key
use Rattle.wasmi_dense.specs.ArenaLoan.{written}
use Rattle.wasmi_dense.specs.contracts.arena.Arena.{the_row}

module _ (K R A : RattleType) (keys : key.Ghosts K.Denot) (heap : alloc.Ghosts A.Denot) where
  -- the arena with another item under the key
  abbrev pub with_item : ArenaState R.Denot → K.Denot → R.Denot → ArenaState R.Denot
  with_item arena k last = record arena { items = slice_set arena.items (keys.keys.number k) last }

  -- the item under that key is what was written last through the reference, where there is such an
  -- item, and nothing else changes.
  -- `*arena.get_mut(1)? = 9` on 7, 8: 7, 9.
  abbrev pub lends_get : MutBor (ArenaState R.Denot) → K.Denot → Result (MutBor R.Denot) ArenaError → Fml
  lends_get arena k item = LendsIfOk (the_row K R A keys heap) R arena item (with_item arena.now k) arena.now

  -- the same of a key that reads an item
  abbrev pub lends_item : MutBor (ArenaState R.Denot) → K.Denot → MutBor R.Denot → Fml
  lends_item arena k item = Lends (the_row K R A keys heap) R arena item (with_item arena.now k)

  -- the items are what was written last through the references, and the room stays
  abbrev pub lends_all : MutBor (ArenaState R.Denot) → GName → Fml
  lends_all arena loan = follows (the_row K R A keys heap) (Array R 0) arena.ghost_name loan
      (λ last. record arena.now { items = written arena.now.items last })
