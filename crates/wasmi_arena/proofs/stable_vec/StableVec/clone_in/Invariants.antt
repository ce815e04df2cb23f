use Rattle.wasmi_arena.proofs.Cloned.{IsCloned}
use Rattle.wasmi_arena.proofs.stable_vec.StableVec.clone_in.Given as goal

-- the items of the parts that came have their clones
abbrev pub invariant-loop-part : goal.invariant-loop-part
invariant-loop-part g l = IsCloned g.T.Clone.is_clone l.self l.part-iterator l.made
