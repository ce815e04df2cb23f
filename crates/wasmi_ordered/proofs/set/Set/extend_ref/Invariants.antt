use Rattle.std.proofs.Common.{map}
use Rattle.std.specs.Map.Iter.{deref}
use Rattle.std.specs.Ordering.{eq_by_cmp}
use Rattle.std.specs.Set.{IsUnion}
use Rattle.wasmi_ordered.proofs.set.Set.extend_ref.Given as goal

-- copies of what came so far are in
abbrev pub invariant-loop-value : goal.invariant-loop-value
invariant-loop-value g l = record {
  inserted : IsUnion (eq_by_cmp g.T.Ord.cmp) l.fn.self (map deref l.yielded) l.self;
  ready : (goal.iterator-loop-value g).can_next l.value-iterator;
  ends : (goal.iterator-loop-value g).is_finite l.value-iterator;
}
