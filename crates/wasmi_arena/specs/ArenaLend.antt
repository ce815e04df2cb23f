-- What a stable arena is once a `&mut` to an item of it has ended.
use Rattle.std.specs.Prelude.{List, Result, length, slice_set}
use Rattle.std.specs.List.{refill}
use Rattle.std.specs.Borrow.{Fml, GName, RattleType, MutBor, Lends, LendsIfOk, follows}
use Rattle.std.specs.declared.alloc.Allocator as alloc
use Rattle.wasmi_arena.specs.Pairs.{LendsBothIfOk, with_both}
use Rattle.wasmi_arena.specs.declared.error.ArenaError.{ArenaError}
use Rattle.wasmi_arena.specs.declared.key.ArenaKey as key
use Rattle.wasmi_arena.specs.contracts.stable_arena.StableArena.{the_row}

module _ (K R A : RattleType) (keys : key.Ghosts K.Denot) (heap : alloc.Ghosts A.Denot) where
  -- the item under that key is what was written last through the reference, where there is such an
  -- item, and no other changes.
  -- `*arena.get_mut(1)? = 9` on 7, 8: 7, 9.
  abbrev pub lends_get : MutBor (List R.Denot) → K.Denot → Result (MutBor R.Denot) ArenaError → Fml
  lends_get arena k item = LendsIfOk (the_row K R A keys heap) R arena item (λ last. slice_set arena.now (keys.keys.number k) last) arena.now

  -- the same of a key that reads an item.
  -- `arena[key] = 9` writes so.
  abbrev pub lends_item : MutBor (List R.Denot) → K.Denot → MutBor R.Denot → Fml
  lends_item arena k item = Lends (the_row K R A keys heap) R arena item (λ last. slice_set arena.now (keys.keys.number k) last)

  -- each item is what was written last through the loan of that name, and there are as many
  abbrev pub lends_items : MutBor (List R.Denot) → GName → Fml
  lends_items arena loan = follows (the_row K R A keys heap) (the_row K R A keys heap) arena.ghost_name loan (refill (length arena.now) arena.now)

  -- the items under the two keys in a list are what was written last through the references, where there are two,
  -- and no other changes
  abbrev pub lends_both : MutBor (List R.Denot) → List K.Denot → Result (MutBor R.Denot × MutBor R.Denot) ArenaError → Fml
  lends_both arena both pair = LendsBothIfOk (the_row K R A keys heap) R arena pair (with_both keys.keys.number arena.now both)
