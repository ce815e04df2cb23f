use Rattle.std.proofs.Common.{Some, ap, sym}
use Rattle.wasmi_collections.specs.HeadVec.{state_of}
use Rattle.wasmi_collections.specs.HeadVecLaws.{last_item-append}
use Rattle.wasmi_collections.proofs.LastItem.{lent_alike, with_last-append}
use Rattle.wasmi_collections.proofs.head_vec.HeadVec.last_mut.Goals as goal

pub returns-in-Some : goal.returns-in-Some
returns-in-Some g c =
    let rest = c.self.inside.rest.items in let head = c.in-Some.head in
    rw (← c.self.view_is, c.in-Some.is) (
      lent_alike (λ last. ap (λ items. record { items = items; room = (state_of (Some head) c.self.inside.rest).room }) (with_last-append rest head last)),
      record { writes_back = tt; value = sym (last_item-append rest head) },
    )
