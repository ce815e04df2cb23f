use Rattle.std.proofs.Common.{sym}
use Rattle.wasmi_collections.proofs.LastItem.{head_partial_cmp-parts, some_then-apart}
use Rattle.wasmi_collections.proofs.head_vec.HeadVecPartialOrd.partial_cmp.Goals as goal

pub returns-in-Equal : goal.returns-in-Equal
returns-in-Equal g c =
    rw (← c.self.view_is, ← c.other.view_is, head_partial_cmp-parts c.self.inside.head c.other.inside.head c.self.inside.rest.items c.other.inside.rest.items c.self.invariant c.other.invariant, ← c.in_ok-order.ensures, c.in-Equal.is) c.partial_cmp-in-Equal.ensures

pub returns-in_default : goal.returns-in_default
returns-in_default g c =
    rw (← c.self.view_is, ← c.other.view_is, head_partial_cmp-parts c.self.inside.head c.other.inside.head c.self.inside.rest.items c.other.inside.rest.items c.self.invariant c.other.invariant, ← c.in_ok-order.ensures) (sym (some_then-apart _ _ c.in_default.not-Equal))
