use Rattle.std.proofs.Common.{◌≢◌, get_or, lit<, sym, true≢false, ◌∙◌}
use Rattle.std.proofs.lemmas.Str.Parse.{parse_plain}
use Rattle.std.proofs.lemmas.Str.Pattern.{starts_char}
use Rattle.wasmi_script_lib.proofs.NumberLemmas.{numerals, number_of-parse}
use Rattle.wasmi_script_lib.proofs.line.number.Goals as goal

pub returns : goal.returns
returns c =
    let bs = c.args.digits.now in
    let plus = starts_char 43 bs c.starts_with.result c.starts_with.ensures.cases (lit< tt) (lit< tt) in
    let no_plus : get_or bs 0 0 ≢ 43 = λ same. true≢false (sym (plus.1 same) ∙ c.if-starts_with.false) in
    c.ok.ensures.value ∙ number_of-parse bs _ (parse_plain numerals 64 bs _ c.parse.ensures.value.0 no_plus)
