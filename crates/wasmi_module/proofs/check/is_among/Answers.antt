use Rattle.std.proofs.Common.{rules, tests, bytes_eq, sym, ◌∙◌}
use Rattle.std.proofs.lemmas.Iterator.{YieldsList-from_slice}
use Rattle.std.proofs.lemmas.Iterator.Search.{any_from_yields_List}
use Rattle.wasmi_module.specs.declared.module.Export.{Export}
use Rattle.wasmi_module.proofs.DistinctLemmas.{list_any-map}
use Rattle.wasmi_module.proofs.check.is_among.Goals as goal

pub returns : goal.returns
returns c =
    any_from_yields_List (λ export. bytes_eq c.args.name.now export.name.now) _ _ _ c.any.ensures.ran (YieldsList-from_slice c.args.exports.now c.iter.ensures.rest) (λ x b q k. search (rules, tests))
    ∙ sym (list_any-map (bytes_eq c.args.name.now) (λ (export : Export). export.name.now) c.args.exports.now)
