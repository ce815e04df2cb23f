use Rattle.std.proofs.Common.{◌∙◌}
use Rattle.std.proofs.lemmas.List.FromFn.{length-map-range_with_len}
use Rattle.wasmi_arena.proofs.stable_arena.StableArena.keys.Goals as goal

pub returns-clause-len : goal.returns-clause-len
returns-clause-len g c = length-map-range_with_len g.Key.ArenaKey.keys.key 0 c.len.result ∙ c.len.ensures.value
