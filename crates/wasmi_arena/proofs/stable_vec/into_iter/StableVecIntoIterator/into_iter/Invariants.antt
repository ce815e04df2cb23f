use Rattle.std.proofs.Common.{◌≡◌, ◌+◌, ◌≤◌, length, take}
use Rattle.std.specs.Array.Iter.{array_into_iter_items}
use Rattle.wasmi_arena.proofs.stable_vec.into_iter.StableVecIntoIterator.into_iter.Given as goal

-- the buckets behind the open ones are let go, last to first
abbrev pub invariant-loop : goal.invariant-loop
invariant-loop g l = record {
  kept : array_into_iter_items l.buckets ≡ take (length (array_into_iter_items l.buckets)) (array_into_iter_items l.initial.buckets);
  counted : length (array_into_iter_items l.buckets) + l.counter ≡ 27 + l.open_buckets;
  within : l.counter ≤ 27;
}
