-- What a deduplicating arena is once a `&mut` to items of it has ended: no value handed in changes.
use Rattle.std.specs.Prelude.{Result, slice_set}
use Rattle.std.specs.Borrow.{Fml, GName, RattleType, MutBor, Array, Lends, LendsIfOk, follows}
use Rattle.std.specs.HashMap.Lent.{HashMembers}
use Rattle.std.specs.declared.alloc.Allocator as alloc
use Rattle.wasmi_arena.specs.declared.error.ArenaError.{ArenaError}
use Rattle.wasmi_arena.specs.declared.key.ArenaKey as key
use Rattle.wasmi_collections.specs.Dedup.{DedupState}
use Rattle.wasmi_collections.specs.contracts.arena.dedup.DedupArena.{the_row}
use Rattle.wasmi_dense.specs.ArenaLoan.{written}

module _ (K R A : RattleType) (keys : key.Ghosts K.Denot) (values : HashMembers R.Denot) (heap : alloc.Ghosts A.Denot) where
  abbrev row : RattleType
  row = the_row K R A keys (record { eq = values.eq }) (record { hash_input = values.hash_input }) heap

  -- the arena with another item under the key
  abbrev pub with_item : DedupState R.Denot → K.Denot → R.Denot → DedupState R.Denot
  with_item arena k last = record arena { items = slice_set arena.items (keys.keys.number k) last }

  -- the item under that key is what was written last through the reference, where there is such an item
  abbrev pub lends_get : MutBor (DedupState R.Denot) → K.Denot → Result (MutBor R.Denot) ArenaError → Fml
  lends_get arena k item = LendsIfOk row R arena item (with_item arena.now k) arena.now

  -- the same of a key that reads an item
  abbrev pub lends_item : MutBor (DedupState R.Denot) → K.Denot → MutBor R.Denot → Fml
  lends_item arena k item = Lends row R arena item (with_item arena.now k)

  -- the items are what was written last through the references
  abbrev pub lends_all : MutBor (DedupState R.Denot) → GName → Fml
  lends_all arena loan = follows row (Array R 0) arena.ghost_name loan
      (λ last. record arena.now { items = written arena.now.items last })
