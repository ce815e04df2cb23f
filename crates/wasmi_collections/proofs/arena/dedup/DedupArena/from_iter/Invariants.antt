use Rattle.std.proofs.Common.{[]}
use Rattle.wasmi_collections.specs.Dedup.{AllocatesEach}
use Rattle.wasmi_collections.proofs.arena.dedup.DedupArena.from_iter.Given as goal

-- the values so far have keys
abbrev pub invariant-loop-value : goal.invariant-loop-value
invariant-loop-value g l = (goal.iterator-loop-value g).can_next l.value-iterator × (goal.iterator-loop-value g).is_finite l.value-iterator
    × AllocatesEach g.Key.ArenaKey.keys g.T.PartialEq.eq g.T.Clone.is_clone (record { handed = []; items = [] }) l.yielded l.arena
