use Rattle.std.proofs.Common.{refl}
use Rattle.wasmi_collections.specs.HeadVecLaws.{last_item-append, before_last-append}
use Rattle.wasmi_collections.proofs.laws.head_vec_order.Goals as goal

pub returns-clause-last_first : goal.returns-clause-last_first
returns-clause-last_first g c = λ xs ys x y.
    rw (last_item-append xs x, last_item-append ys y, before_last-append xs x, before_last-append ys y) refl
