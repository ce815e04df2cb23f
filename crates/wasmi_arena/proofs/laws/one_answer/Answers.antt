use Rattle.wasmi_arena.proofs.OneAnswer.{one_answer}
use Rattle.wasmi_arena.proofs.laws.one_answer.Goals as goal

pub returns : goal.returns
returns g c = one_answer g.Key.ArenaKey.keys g.S.AnyArena.BOUNDED g.U.AnyArena.BOUNDED g.S.AnyArena.state g.U.AnyArena.state
