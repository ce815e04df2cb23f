use Rattle.std.proofs.Common.{◌≡◌, ◌+◌, ◌≤◌}
use Rattle.std.specs.Vec.{vec_items, vec_len, vec_capacity}
use Rattle.wasmi_arena.specs.Growth.{AppendsMany}
use Rattle.wasmi_dense.proofs.arena.grow.with_defaults.Given as goal

-- so many values are in, and there is room for the others
abbrev pub invariant-loop : goal.invariant-loop
invariant-loop g l = record {
  values : AppendsMany g.T.Default.is_default l.counter (vec_items l.fn.items) (vec_items l.items);
  counted : vec_len l.items ≡ vec_len l.fn.items + l.counter;
  fits : vec_len l.fn.items + l.amount ≤ vec_capacity l.items;
  in_block : vec_capacity l.items ≡ vec_capacity l.fn.items;
}
