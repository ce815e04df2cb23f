use Rattle.std.proofs.Common.{sym, ap, ◌∙◌}
use Rattle.std.proofs.Math.Nat.{le_of_lt}
use Rattle.wasmi_arena.specs.Entries.{entries_from}
use Rattle.wasmi_arena.proofs.Ahead.{progress_fewer}
use Rattle.wasmi_arena.proofs.Entries.{fewer_entries_last, entries_from_last, has_key, position_fits, last_below}
use Rattle.wasmi_arena.proofs.Sizes.{items_small}
use Rattle.wasmi_arena.proofs.stable_arena.into_iter.StableArenaIntoIterDoubleEndedIterator.next_back.Goals as goal

pub returns-clause-goes : goal.returns-clause-goes
returns-clause-goes g c = rw (← c.self.view_is) (progress_fewer (λ entries. entries) _ (λ _. tt) _ _ _ (fewer_entries_last g.Key.ArenaKey.keys _ _ _ _ c.in_ok-item.ensures.steps))

pub returns-clause-steps : goal.returns-clause-steps
returns-clause-steps g c =
    let keys = g.Key.ArenaKey.keys in
    rw (← c.self.view_is, c.key_at-key.ensures, c.len.ensures) (ap (entries_from keys c.self.inside.next) c.in_ok-item.ensures.steps ∙ entries_from_last keys c.self.inside.next c.next_back.new.self c.in_ok-item.item)

pub returns-in_err-item-clause-goes : goal.returns-in_err-item-clause-goes
returns-in_err-item-clause-goes g c = rw c.from_residual.ensures (record { on = λ _. tt; keeps = tt; rests = λ _. tt })

pub len-requires : goal.len-requires
len-requires g c = items_small g.row.T g.row.A g.A.Allocator g.row.Key g.Key.ArenaKey assumption

pub overflow_add-self-inside : goal.overflow_add-self-inside
overflow_add-self-inside g c =
    let keys = g.Key.ArenaKey.keys in rw c.len.ensures (position_fits keys _ (le_of_lt (last_below keys c.self.inside.next _ _ c.in_ok-item.ensures.steps c.self.invariant)))

pub key_at-key-requires : goal.key_at-key-requires
key_at-key-requires g c =
    let keys = g.Key.ArenaKey.keys in rw c.len.ensures (has_key keys _ (last_below keys c.self.inside.next _ _ c.in_ok-item.ensures.steps c.self.invariant))

pub invariant_of-self-2 : goal.invariant_of-self-2
invariant_of-self-2 g c = le_of_lt (last_below g.Key.ArenaKey.keys c.self.inside.next _ _ c.in_ok-item.ensures.steps c.self.invariant)

pub invariant_of-self : goal.invariant_of-self
invariant_of-self g c = rw (c.in_err-item.ensures.steps.1 ∙ sym c.in_err-item.ensures.steps.0) c.self.invariant

pub returns-in_err-item-clause-steps : goal.returns-in_err-item-clause-steps
returns-in_err-item-clause-steps g c =
    let entries = entries_from g.Key.ArenaKey.keys c.self.inside.next in
    rw (c.from_residual.ensures, ← c.self.view_is) (ap entries c.in_err-item.ensures.steps.0, ap entries c.in_err-item.ensures.steps.1)
