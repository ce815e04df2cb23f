-- What a contract sees of an arena in one vector: the list of its items, and the room that is left.
use Rattle.std.specs.Prelude.{◌-◌}
use Rattle.std.specs.declared.vec.Vec.{Vec}
use Rattle.std.specs.Vec.{vec_items, vec_len, vec_capacity}
use Rattle.wasmi_arena.specs.Arena.{ArenaState}

-- the items of a vector, and how many more go into the block that it has.
-- Of 3 items in a block of 4: room for 1.
abbrev pub state_of : {T A : Type 0} → Vec T A → ArenaState T
state_of vec = record { items = vec_items vec; room = vec_capacity vec - vec_len vec }
