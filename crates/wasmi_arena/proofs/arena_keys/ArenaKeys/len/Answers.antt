use Rattle.std.proofs.Common.{sym}
use Rattle.std.proofs.lemmas.List.FromFn.{length-map-range_with_len}
use Rattle.wasmi_arena.proofs.arena_keys.ArenaKeys.len.Goals as goal

pub returns : goal.returns
returns g c = rw (← c.self.view_is) (sym (length-map-range_with_len g.Key.ArenaKey.keys.key c.self.inside.next c.self.inside.left))
