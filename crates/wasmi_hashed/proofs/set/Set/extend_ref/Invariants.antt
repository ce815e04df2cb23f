use Rattle.std.proofs.Common.{◌≡◌, map}
use Rattle.std.specs.Map.Iter.{deref}
use Rattle.std.specs.Set.{IsUnion}
use Rattle.wasmi_hashed.proofs.set.Set.extend_ref.Given as goal

-- copies of what came so far are in, and elements are hashed as before
abbrev pub invariant-loop-value : goal.invariant-loop-value
invariant-loop-value g l = (goal.iterator-loop-value g).can_next l.value-iterator × (goal.iterator-loop-value g).is_finite l.value-iterator
    × IsUnion g.T.PartialEq.eq l.fn.self.elements (map deref l.yielded) l.self.elements × (l.self.hasher ≡ l.fn.self.hasher)
