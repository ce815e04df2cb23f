use Rattle.std.proofs.Common.{◌<◌, arith}
use Rattle.wasmi_arena.specs.Geometry.{max_len}
use Rattle.wasmi_arena.proofs.Read.{key-has, key-refused}
use Rattle.wasmi_arena.proofs.stable_arena.StableArena.next_key.Goals as goal

below : (g : _) (c : goal.After-ok_or g) → c.len.result < max_len
below g c = grind (arith, c.self.view_is)

pub returns-clause-has_key : goal.returns-clause-has_key
returns-clause-has_key g c = rw (← c.len.ensures.value, c.ok_or.ensures.value) (key-has _ _ _ _ c.from_usize.ensures (below g c))

pub returns-clause-no_key : goal.returns-clause-no_key
returns-clause-no_key g c = rw (← c.len.ensures.value, c.ok_or.ensures.value) (key-refused _ _ _ _ c.from_usize.ensures (below g c))
