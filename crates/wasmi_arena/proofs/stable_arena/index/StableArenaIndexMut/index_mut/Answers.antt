use Rattle.std.proofs.Common.{refl}
use Rattle.wasmi_arena.proofs.Sizes.{vec_small}
use Rattle.wasmi_arena.proofs.stable_arena.index.StableArenaIndexMut.index_mut.Goals as goal

pub item_mut-requires : goal.item_mut-requires
item_mut-requires g c =
    (vec_small g.row.T g.row.A g.A.Allocator g.row.Key g.Key.ArenaKey assumption, rw (c.into_usize.ensures.number, c.self.view_is) c.requires)

pub returns : goal.returns
returns g c = (
  rw (← c.self.view_is, ← c.into_usize.ensures.number) (refl, λ item. refl),
  record {
    writes_back = tt;
    value = rw (← c.self.view_is, ← c.into_usize.ensures.number) c.item_mut.ensures.value;
  },
)
