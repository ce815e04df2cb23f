use Rattle.wasmi_collections.proofs.LastItem.{head_cmp-parts, then-apart}
use Rattle.std.proofs.Common.{sym}
use Rattle.wasmi_collections.proofs.head_vec.HeadVecOrd.cmp.Goals as goal

pub returns-in-Equal : goal.returns-in-Equal
returns-in-Equal g c =
    rw (← c.self.view_is, ← c.other.view_is, head_cmp-parts c.self.inside.head c.other.inside.head c.self.inside.rest.items c.other.inside.rest.items c.self.invariant c.other.invariant, ← c.cmp.ensures, c.in-Equal.is) c.cmp-in-Equal.ensures

pub returns-in_default : goal.returns-in_default
returns-in_default g c =
    rw (← c.self.view_is, ← c.other.view_is, head_cmp-parts c.self.inside.head c.other.inside.head c.self.inside.rest.items c.other.inside.rest.items c.self.invariant c.other.invariant, ← c.cmp.ensures) (sym (then-apart _ _ c.in_default.not-Equal))
