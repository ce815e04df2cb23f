-- What a head vector is once a `&mut` to its last item has ended.
use Rattle.std.specs.Prelude.{Option}
use Rattle.std.specs.Borrow.{Fml, RattleType, MutBor, LendsIf}
use Rattle.std.specs.declared.alloc.Allocator.{Ghosts}
use Rattle.wasmi_collections.specs.HeadVec.{HeadState, with_last}
use Rattle.wasmi_collections.specs.contracts.head_vec.HeadVec.{the_row}

module _ (R A : RattleType) (heap : Ghosts A.Denot) where
  -- the last item is what was written last through the reference, if there is one, and the others stay.
  -- `*v.last_mut()? = 9` on 1, 2: 1, 9.
  abbrev pub lends_last : MutBor (HeadState R.Denot) → Option (MutBor R.Denot) → Fml
  lends_last vec item = LendsIf (the_row R A heap) R vec item (λ last. record { items = with_last vec.now.items last; room = vec.now.room }) vec.now
