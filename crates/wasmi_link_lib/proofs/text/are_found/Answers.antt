use Rattle.std.proofs.Common.{rules, sym, ◌∙◌}
use Rattle.std.proofs.lemmas.Iterator.{YieldsList-from_slice}
use Rattle.std.proofs.lemmas.Iterator.Search.{all_from_yields_List}
use Rattle.std.proofs.lemmas.List.Folds.{list_all-map}
use Rattle.wasmi_link_lib.specs.Lines.{line_of, answer_of, Line}
use Rattle.wasmi_link_lib.specs.Report.{is_found}
use Rattle.wasmi_link_lib.proofs.text.are_found.Goals as goal

pub returns : goal.returns
returns g c =
    all_from_yields_List (λ line. is_found (answer_of line.answer)) _ _ _ c.all.ensures.ran (YieldsList-from_slice c.args.lines.now c.iter.ensures.rest) (λ x b q k. search rules)
    ∙ sym (list_all-map (λ (line : Line). is_found line.answer) line_of c.args.lines.now)
