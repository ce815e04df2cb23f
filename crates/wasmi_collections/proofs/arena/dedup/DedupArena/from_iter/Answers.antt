use Rattle.std.proofs.Common.{rules}
use Rattle.wasmi_collections.proofs.Dedup.{AllocatesEach-push}
use Rattle.wasmi_collections.proofs.arena.dedup.DedupArena.from_iter.Goals as goal

pub loop-value-preserved : goal.loop-value-preserved
loop-value-preserved g c = (
  search rules,
  search rules,
  AllocatesEach-push g.Key.ArenaKey.keys g.T.PartialEq.eq g.T.Clone.is_clone _ c.loop-value.yielded c.loop-value.arena c.in-Some.value c.in_ok-alloc.field-0 c.alloc.new.self c.loop-value.invariant.2 c.in_ok-alloc.ensures.ok,
)
