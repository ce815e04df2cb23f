use Rattle.wasmi_arena.specs.IterMut.{left}
use Rattle.wasmi_arena.proofs.Ahead.{progress_fewer}
use Rattle.wasmi_arena.proofs.Entries.{fewer_entries_last}
use Rattle.wasmi_arena.proofs.stable_arena.iter_mut.StableArenaIterMutDoubleEndedIterator.next_back.Goals as goal

pub returns-clause-goes : goal.returns-clause-goes
returns-clause-goes g c = rw (← c.self.view_is) (progress_fewer left _ (λ _. tt) _ _ _ (fewer_entries_last g.Key.ArenaKey.keys _ _ _ _ c.in_ok-item.ensures.steps))
