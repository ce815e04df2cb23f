use Rattle.std.proofs.Common.{refl}
use Rattle.wasmi_collections.proofs.LastItem.{pointwise-parts}
use Rattle.wasmi_collections.proofs.head_vec.HeadVecPartialEq.eq.Goals as goal

pub returns-then-eq : goal.returns-then-eq
returns-then-eq g c =
    rw (← c.self.view_is, ← c.other.view_is, pointwise-parts c.self.inside.head c.other.inside.head c.self.inside.rest.items c.other.inside.rest.items c.self.invariant c.other.invariant, ← c.eq.ensures, c.if-eq.true) c.eq-then-eq.ensures

pub returns-else-eq : goal.returns-else-eq
returns-else-eq g c =
    rw (← c.self.view_is, ← c.other.view_is, pointwise-parts c.self.inside.head c.other.inside.head c.self.inside.rest.items c.other.inside.rest.items c.self.invariant c.other.invariant, ← c.eq.ensures, c.if-eq.false) refl
