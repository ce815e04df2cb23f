use Rattle.std.proofs.Common.{rules}
use Rattle.wasmi_interner.proofs.InternsEach.{InternsEach-push}
use Rattle.wasmi_interner.proofs.string_interner.StringInterner.extend.Goals as goal

pub loop-text-preserved : goal.loop-text-preserved
loop-text-preserved g c = (
  search rules,
  search rules,
  InternsEach-push c.args.self.now c.loop-text.yielded c.loop-text.self c.in-Some.text _ c.get_or_intern_with_hint.new.self c.loop-text.invariant.2 c.in_ok-get_or_intern_with_hint.ensures,
)
