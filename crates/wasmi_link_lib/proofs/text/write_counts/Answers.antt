use Rattle.std.proofs.Common.{◌∙◌, ap, length, map, string_bytes, sym}
use Rattle.std.proofs.lemmas.List.{length-map}
use Rattle.std.proofs.lemmas.Result.{IfOk-equal}
use Rattle.wasmi_link_lib.specs.Lines.{line_of, linked_of}
use Rattle.wasmi_link_lib.specs.Report.{answered, is_different, is_found, is_missing}
use Rattle.wasmi_link_lib.proofs.ReportLemmas.{counts_written}
use Rattle.wasmi_link_lib.proofs.text.write_counts.Goals as goal

pub returns : goal.returns
returns g c =
    let lines = c.args.linked.now.lines.items in
    IfOk-equal c.writeln.result _ _ _ c.writeln.ensures.bytes
    (counts_written (linked_of c.args.linked.now) (string_bytes c.args.text.now) _ _ c.len-imports.result c.found-found.result c.missing-missing.result c.different-different.result
    (c.len-imports.ensures ∙ sym c.deref.ensures.len ∙ ap length c.deref.ensures.value ∙ sym (length-map lines line_of))
    (c.found-found.ensures ∙ ap (λ ls. answered is_found (map line_of ls)) c.deref.ensures.value)
    (c.missing-missing.ensures ∙ ap (λ ls. answered is_missing (map line_of ls)) c.deref-2.ensures.value)
    (c.different-different.ensures ∙ ap (λ ls. answered is_different (map line_of ls)) c.deref-3.ensures.value)
    c.in_ok-write.ensures.bytes c.in_ok-write-2.ensures.bytes)
