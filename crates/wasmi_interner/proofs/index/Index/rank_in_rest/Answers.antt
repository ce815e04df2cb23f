use Rattle.wasmi_interner.proofs.Symbols.{nowhere}
use Rattle.wasmi_interner.proofs.index.Index.rank_in_rest.Goals as goal

pub unreachable-requires : goal.unreachable-requires
unreachable-requires g c =
    nowhere c.args.sought.now.text.now c.args.sought.now.texts.now c.requires.indexed.distinct c.requires.absent c.in-Ok.field-0 c.in-Ok.ensures.there
