use Rattle.std.proofs.lemmas.Nat.{one_shl}
use Rattle.wasmi_arena.proofs.Doubling.{top_from_5, place_of_top, place_names}
use Rattle.wasmi_arena.proofs.geometry.place.Goals as goal

pub overflow_sub-result : goal.overflow_sub-result
overflow_sub-result c = top_from_5 c.args.index c.ilog2-top.result c.ilog2-top.ensures.power_le c.ilog2-top.ensures.next_power_gt c.requires

pub returns-clause-place : goal.returns-clause-place
returns-clause-place c =
    let top = c.ilog2-top.ensures in
    rw (one_shl c.ilog2-top.result 64 top.bound) (place_of_top c.args.index c.ilog2-top.result top.power_le top.next_power_gt c.requires)

pub returns-clause-bucket : goal.returns-clause-bucket
returns-clause-bucket c =
    let top = c.ilog2-top.ensures in
    (place_names (place_of_top c.args.index c.ilog2-top.result top.power_le top.next_power_gt c.requires)).0

pub returns-clause-slot : goal.returns-clause-slot
returns-clause-slot c =
    let top = c.ilog2-top.ensures in
    rw (one_shl c.ilog2-top.result 64 top.bound) (place_names (place_of_top c.args.index c.ilog2-top.result top.power_le top.next_power_gt c.requires)).1
