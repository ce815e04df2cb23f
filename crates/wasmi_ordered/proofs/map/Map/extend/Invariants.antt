use Rattle.std.specs.Ordering.{eq_by_cmp}
use Rattle.wasmi_map_specs.specs.Maps.{InsertsAll}
use Rattle.wasmi_ordered.proofs.map.Map.extend.Given as goal

-- what came so far is in
abbrev pub invariant-loop-key : goal.invariant-loop-key
invariant-loop-key g l = record {
  inserted : InsertsAll (eq_by_cmp g.K.Ord.cmp) l.fn.self l.yielded l.self;
  ready : (goal.iterator-loop-key g).can_next l.key-iterator;
  ends : (goal.iterator-loop-key g).is_finite l.key-iterator;
}
