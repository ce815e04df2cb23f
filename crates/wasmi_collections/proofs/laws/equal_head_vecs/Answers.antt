use Rattle.std.proofs.lemmas.Slice.Eq.{slice_eq-Decides}
use Rattle.wasmi_collections.proofs.laws.equal_head_vecs.Goals as goal

pub returns : goal.returns
returns g c = λ same. slice_eq-Decides same _ _ _ c.eq.ensures
