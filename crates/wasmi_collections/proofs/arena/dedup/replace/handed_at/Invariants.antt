use Rattle.std.proofs.Common.{◌≡◌}
use Rattle.wasmi_collections.specs.Dedup.{value_numbered}
use Rattle.wasmi_collections.proofs.arena.dedup.replace.handed_at.Given as goal

-- what is left has the value that is looked for
abbrev pub invariant-loop-value : goal.invariant-loop-value
invariant-loop-value g l = (goal.iterator-loop-value g).can_next l.value-iterator × (goal.iterator-loop-value g).is_finite l.value-iterator
    × (value_numbered g.Key.ArenaKey.keys l.value-iterator l.number ≡ value_numbered g.Key.ArenaKey.keys l.index.entries l.number)
