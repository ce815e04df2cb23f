use Rattle.std.proofs.Common.{Err, [], ◌∷◌, ◌++◌, ap, codes, string_bytes, ◌∙◌}
use Rattle.std.proofs.lemmas.Option.{slice_get-map, slice_get_past}
use Rattle.std.specs.Option.{option_map}
use Rattle.wasmi_arena.specs.Errors.{text_of}
use Rattle.wasmi_script_lib.proofs.ReplyLemmas.{OnOk-same, word_text}
use Rattle.wasmi_script_lib.proofs.texts.ScriptTexts.get.Goals as goal

pub returns-in-Ok : goal.returns-in-Ok
returns-in-Ok g c =
    let arena = c.args.self.now.arena in
    rw (slice_get-map string_bytes arena c.args.number ∙ ap (option_map string_bytes) c.in-Ok.ensures.item)
    (OnOk-same _ _ _ _ (word_text (string_bytes c.args.replies.now) (codes "text ") (string_bytes c.in-Ok.text.now)) c.writeln.ensures.bytes)

pub returns-in-Err : goal.returns-in-Err
returns-in-Err g c =
    let arena = c.args.self.now.arena in let old = string_bytes c.args.replies.now in
    let past = c.in-Err.ensures.out_of_bounds.0 (ap Err c.in-Err.ensures.errors) in
    let said = c.text.ensures ∙ ap text_of c.in-Err.ensures.errors in
    rw (slice_get-map string_bytes arena c.args.number ∙ ap (option_map string_bytes) (slice_get_past arena c.args.number past))
    (OnOk-same _ _ _ _ (word_text old (codes "error ") c.text.result.now ∙ ap (λ t. old ++ ((codes "error " ++ t) ++ (10 ∷ []))) said) c.writeln-in-Err.ensures.bytes)
