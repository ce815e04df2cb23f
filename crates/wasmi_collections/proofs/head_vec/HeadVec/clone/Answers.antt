use Rattle.wasmi_collections.proofs.LastItem.{AllZip-append}
use Rattle.wasmi_collections.proofs.head_vec.HeadVec.clone.Goals as goal

pub returns-in_ok-clone-in-Some-2-clause-items : goal.returns-in_ok-clone-in-Some-2-clause-items
returns-in_ok-clone-in-Some-2-clause-items g c =
    rw (← c.self.view_is, c.in-Some.is) (AllZip-append _ _ _ _ _ c.in_ok-clone-in-Some-2.ensures.cases.0 c.in_ok-clone-in-Some.ensures.cases)
