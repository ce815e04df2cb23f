use Rattle.std.proofs.Common.{sym, ap, ◌∙◌}
use Rattle.std.proofs.Math.Numerals.{add-one-le}
use Rattle.wasmi_arena.specs.Entries.{entries_from}
use Rattle.wasmi_arena.proofs.Ahead.{progress_first}
use Rattle.wasmi_arena.proofs.Entries.{has_key, position_fits, first_below}
use Rattle.wasmi_arena.proofs.stable_arena.into_iter.StableArenaIntoIterIterator.next.Goals as goal

pub returns-in_err-item-clause-goes : goal.returns-in_err-item-clause-goes
returns-in_err-item-clause-goes g c = rw c.from_residual.ensures (record { on = λ _. tt; keeps = tt; rests = λ _. tt })

pub invariant_of-self : goal.invariant_of-self
invariant_of-self g c = rw (c.in_err-item.ensures.steps.1 ∙ sym c.in_err-item.ensures.steps.0) c.self.invariant

pub returns-in_err-item-clause-steps : goal.returns-in_err-item-clause-steps
returns-in_err-item-clause-steps g c =
    let entries = entries_from g.Key.ArenaKey.keys c.self.inside.next in
    rw (c.from_residual.ensures, ← c.self.view_is) (ap entries c.in_err-item.ensures.steps.0, ap entries c.in_err-item.ensures.steps.1)

pub key_at-key-requires : goal.key_at-key-requires
key_at-key-requires g c =
    let keys = g.Key.ArenaKey.keys in has_key keys c.self.inside.next (first_below keys c.self.inside.next _ _ c.in_ok-item.ensures.steps c.self.invariant).0

pub overflow_add-self : goal.overflow_add-self
overflow_add-self g c =
    let keys = g.Key.ArenaKey.keys in position_fits keys _ (add-one-le (first_below keys c.self.inside.next _ _ c.in_ok-item.ensures.steps c.self.invariant).0)

pub invariant_of-self-2 : goal.invariant_of-self-2
invariant_of-self-2 g c = (first_below g.Key.ArenaKey.keys c.self.inside.next _ _ c.in_ok-item.ensures.steps c.self.invariant).1

pub returns-clause-steps : goal.returns-clause-steps
returns-clause-steps g c =
    rw (← c.self.view_is, c.key_at-key.ensures) (ap (entries_from g.Key.ArenaKey.keys c.self.inside.next) c.in_ok-item.ensures.steps)

pub returns-clause-goes : goal.returns-clause-goes
returns-clause-goes g c = progress_first (λ entry. entry) (λ entries. entries) _ (λ _. tt) _ _ _ (returns-clause-steps g c)
