use Rattle.std.proofs.Common.{◌≡◌, ◌+◌, length}
use Rattle.wasmi_dense.specs.ArenaGrowth.{FillsBlock}
use Rattle.wasmi_dense.proofs.arena.Arena.from_iter.Given as goal

-- what came so far is in, in a block that grew with it
abbrev pub invariant-loop-item : goal.invariant-loop-item
invariant-loop-item g l = (goal.iterator-loop-item g).can_next l.item-iterator × (goal.iterator-loop-item g).is_finite l.item-iterator
    × (l.arena.items ≡ l.yielded) × FillsBlock (length l.arena.items + l.arena.room)
