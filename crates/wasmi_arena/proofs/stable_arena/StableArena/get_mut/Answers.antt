use Rattle.std.proofs.Common.{refl}
use Rattle.std.proofs.Math.Nat.{not-le_of_lt}
use Rattle.wasmi_arena.proofs.stable_arena.StableArena.get_mut.Goals as goal

pub returns-then-index-len : goal.returns-then-index-len
returns-then-index-len g c = (
  rw (← c.self.view_is, ← c.into_usize-index.ensures.number) refl,
  record {
    writes_back = tt;
    item = rw (← c.self.view_is, ← c.into_usize-index.ensures.number) c.item_mut.ensures.value;
    out_of_bounds = (λ refused. cc, rw (← c.self.view_is, ← c.into_usize-index.ensures.number, ← c.len.ensures.value) (λ beyond. absurd (not-le_of_lt c.if-index-len.true beyond)));
    errors = tt;
  },
)
