use Rattle.std.proofs.Common.{refl}
use Rattle.wasmi_arena.proofs.stable_vec.StableVec.room.Goals as goal

pub overflow_sub-result : goal.overflow_sub-result
overflow_sub-result g c = rw (c.self.invariant.items_counted, c.self.view_is) c.slots.ensures.enough

pub returns : goal.returns
returns g c = rw (c.slots.ensures.value, c.self.invariant.items_counted, c.self.view_is) refl
