use Rattle.std.proofs.Common.{rules, string_bytes}
use Rattle.std.proofs.lemmas.Result.{IfOk-equal}
use Rattle.wasmi_link_lib.proofs.ReportLemmas.{line_pieces}
use Rattle.wasmi_link_lib.proofs.text.write_line.Goals as goal

pub returns : goal.returns
returns g c =
    IfOk-equal c.push_str-4.result _ _ _ (search rules)
    (line_pieces (string_bytes c.args.text.now) _ _ _ _ _ _ _ _ _ _ _ _ _ _ _ _ c.kind_text-kind.ensures c.in_ok-write_name.ensures c.in_ok-write.ensures.bytes c.in_ok-write_name-2.ensures c.in_ok-push_str.ensures.bytes
    c.in_ok-write_name-3.ensures c.in_ok-push_str-2.ensures.bytes c.in_ok-write_type.ensures c.in_ok-push_str-3.ensures.bytes c.in_ok-write_answer.ensures)
