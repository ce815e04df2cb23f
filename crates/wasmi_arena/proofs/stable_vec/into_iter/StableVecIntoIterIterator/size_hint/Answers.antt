use contract.BorrowLft.{⊑_meet, ⊑_static}
use Rattle.wasmi_arena.proofs.stable_vec.into_iter.StableVecIntoIterIterator.size_hint.Goals as goal

pub returns-clause-lower : goal.returns-clause-lower
returns-clause-lower g c = c.size_hint.ensures.lower

pub returns-clause-upper : goal.returns-clause-upper
returns-clause-upper g c = c.size_hint.ensures.upper

pub size_hint-requires : goal.size_hint-requires
size_hint-requires g c κs = λ h. ((assumption, (assumption, tt)), (search (⊑_meet, ⊑_static, h.0, h.1.0) depth 40 fits 100000, h.1.1))
