use Rattle.std.proofs.Common.{refl, ◌∙◌}
use Rattle.wasmi_collections.specs.HeadVec.{head_cmp}
use Rattle.wasmi_collections.specs.HeadVecLaws.{last_item-append, before_last-append}
use Rattle.wasmi_collections.proofs.laws.ordered_head_vecs.Goals as goal

pub returns-clause-empty : goal.returns-clause-empty
returns-clause-empty g c = λ none also. c.cmp.ensures ∙ (λ i. head_cmp g.T.Ord.cmp (none i) (also i))

pub returns-clause-least : goal.returns-clause-least
returns-clause-least g c = λ ys y none other.
    c.cmp.ensures ∙ ((λ i. head_cmp g.T.Ord.cmp (none i) (other i)) ∙ rw (last_item-append ys y) refl)

pub returns-clause-greater : goal.returns-clause-greater
returns-clause-greater g c = λ xs x one none.
    c.cmp.ensures ∙ ((λ i. head_cmp g.T.Ord.cmp (one i) (none i)) ∙ rw (last_item-append xs x) refl)

pub returns-clause-last_first : goal.returns-clause-last_first
returns-clause-last_first g c = λ xs ys x y one other.
    c.cmp.ensures ∙ ((λ i. head_cmp g.T.Ord.cmp (one i) (other i))
    ∙ rw (last_item-append xs x, last_item-append ys y, before_last-append xs x, before_last-append ys y) refl)
