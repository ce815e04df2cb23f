use Rattle.std.proofs.Common.{◌≡◌, map}
use Rattle.std.specs.Map.Iter.{deref_pair}
use Rattle.wasmi_map_specs.specs.Maps.{InsertsAll}
use Rattle.wasmi_hashed.proofs.map.Map.extend_ref.Given as goal

-- copies of what came so far are in, and keys are hashed as before
abbrev pub invariant-loop-key : goal.invariant-loop-key
invariant-loop-key g l = (goal.iterator-loop-key g).can_next l.key-iterator × (goal.iterator-loop-key g).is_finite l.key-iterator
    × InsertsAll g.K.PartialEq.eq l.fn.self.entries (map deref_pair l.yielded) l.self.entries × (l.self.hasher ≡ l.fn.self.hasher)
