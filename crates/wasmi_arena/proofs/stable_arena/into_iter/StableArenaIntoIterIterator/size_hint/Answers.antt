use Rattle.wasmi_arena.proofs.stable_arena.into_iter.StableArenaIntoIterIterator.size_hint.Goals as goal

pub returns-clause-lower : goal.returns-clause-lower
returns-clause-lower g c = c.size_hint.ensures.lower

pub returns-clause-upper : goal.returns-clause-upper
returns-clause-upper g c = c.size_hint.ensures.upper
