use Rattle.std.proofs.Common.{refl, sym}
use Rattle.std.proofs.lemmas.Option.{slice_get_past}
use Rattle.wasmi_arena.proofs.stable_vec.StableVec.get_mut.Goals as goal

pub item_mut-requires : goal.item_mut-requires
item_mut-requires g c = (assumption, rw (c.self.invariant.items_counted, c.self.view_is) at c.if-index-self.true)

pub returns-then-index-self : goal.returns-then-index-self
returns-then-index-self g c = (refl, record { writes_back = tt; value = sym c.item_mut.ensures.value })

pub returns-else-index-self : goal.returns-else-index-self
returns-else-index-self g c = (
  refl,
  record { writes_back = tt; value = sym (slice_get_past _ _ (rw (c.self.invariant.items_counted, c.self.view_is) at c.if-index-self.false)) },
)
