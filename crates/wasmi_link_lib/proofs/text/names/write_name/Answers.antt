use Rattle.std.proofs.Common.{◌++◌, ap, rules, string_bytes, sym}
use Rattle.std.proofs.lemmas.Result.{IfOk-equal}
use Rattle.wasmi_link_lib.proofs.ReportLemmas.{name_text-plain}
use Rattle.wasmi_link_lib.proofs.text.names.write_name.Goals as goal

pub returns-then-is_plain : goal.returns-then-is_plain
returns-then-is_plain g c =
    IfOk-equal c.push_str.result _ _ _ (search rules) (ap (λ t. string_bytes c.args.text.now ++ t) (sym (name_text-plain c.args.name.now (c.is_plain.ensures c.if-is_plain.true))))
