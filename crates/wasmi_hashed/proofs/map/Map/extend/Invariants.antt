use Rattle.std.proofs.Common.{◌≡◌}
use Rattle.wasmi_map_specs.specs.Maps.{InsertsAll}
use Rattle.wasmi_hashed.proofs.map.Map.extend.Given as goal

-- what came so far is in, and keys are hashed as before
abbrev pub invariant-loop-key : goal.invariant-loop-key
invariant-loop-key g l = (goal.iterator-loop-key g).can_next l.key-iterator × (goal.iterator-loop-key g).is_finite l.key-iterator
    × InsertsAll g.K.PartialEq.eq l.fn.self.entries l.yielded l.self.entries × (l.self.hasher ≡ l.fn.self.hasher)
