use Rattle.wasmi_arena.proofs.Read.{refused_past}
use Rattle.wasmi_arena.proofs.stable_arena.StableArena.get.Goals as goal

pub returns-clause-out_of_bounds : goal.returns-clause-out_of_bounds
returns-clause-out_of_bounds g c =
    rw (← c.self.view_is, ← c.into_usize.ensures.number, c.ok_or.ensures.value) (refused_past _ _ c.get.result c.get.ensures)
