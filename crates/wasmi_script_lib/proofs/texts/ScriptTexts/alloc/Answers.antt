use Rattle.std.proofs.Common.{ℕ, List, [], ◌∷◌, ◌++◌, Err, codes, decimal, string_bytes, ap, sym, subst, ◌∙◌}
use Rattle.std.proofs.lemmas.List.{length-map}
use Rattle.std.proofs.lemmas.Result.{on_ok_weaker}
use Rattle.wasmi_arena.specs.declared.error.ArenaError.{ArenaError}
use Rattle.wasmi_script_lib.specs.Replies.{error_reply}
use Rattle.wasmi_script_lib.specs.inner.Sessions.{AddsReply, with_texts}
use Rattle.wasmi_script_lib.specs.States.{State}
use Rattle.wasmi_script_lib.specs.declared.texts.ScriptTexts.{ScriptTexts}
use Rattle.wasmi_script_lib.proofs.KeptLemmas.{kept-last, no-key}
use Rattle.wasmi_script_lib.proofs.ReplyLemmas.{OnOk-both, not_memory, word_text}
use Rattle.wasmi_script_lib.proofs.texts.ScriptTexts.alloc.Goals as goal

-- what is kept, with these texts for those of `a`
abbrev with_kept : {A : Type 0} → ScriptTexts A → List (List ℕ) → State
with_kept texts kept = record (with_texts texts) { kept = kept }

pub returns-in_ok-writeln-in-Ok-clause-state : goal.returns-in_ok-writeln-in-Ok-clause-state
returns-in_ok-writeln-in-Ok-clause-state g c =
    let told = kept-last string_bytes c.args.self.now.arena c.args.text.now c.in_ok-from_str.field-0 c.alloc.new.self c.in_ok-from_str.ensures.ok c.in-Ok.ensures.ok c.in-Ok.ensures.has_key in
    rw told.0 (ap (with_kept c.args.self.now) told.1)

pub returns-in_ok-writeln-in-Ok-clause-reply : goal.returns-in_ok-writeln-in-Ok-clause-reply
returns-in_ok-writeln-in-Ok-clause-reply g c =
    let arena = c.args.self.now.arena in let old = string_bytes c.args.replies.now in
    let told = kept-last string_bytes arena c.args.text.now c.in_ok-from_str.field-0 c.alloc.new.self c.in_ok-from_str.ensures.ok c.in-Ok.ensures.ok c.in-Ok.ensures.has_key in
    rw told.0 (c.in_ok-writeln-in-Ok.ensures.bytes ∙ (word_text old (codes "key ") (decimal c.in-Ok.key) ∙ ap (λ n. old ++ ((codes "key " ++ decimal n) ++ (10 ∷ []))) (c.in-Ok.ensures.key ∙ sym (length-map arena string_bytes))))

pub returns-in-Err-clause-state : goal.returns-in-Err-clause-state
returns-in-Err-clause-state g c =
    let refused = not_memory c.in-Err.error c.in-Err.ensures.errors in
    on_ok_weaker c.reply_error.result (λ memory. rw (no-key string_bytes c.args.self.now.arena (c.in-Err.ensures.no_key.0 (ap Err (refused memory)))) (ap (λ arena. with_texts (record c.args.self.now { arena = arena })) c.in-Err.ensures.err)) c.reply_error.ensures.memory

pub returns-in-Err-clause-reply : goal.returns-in-Err-clause-reply
returns-in-Err-clause-reply g c =
    let refused = not_memory c.in-Err.error c.in-Err.ensures.errors in
    OnOk-both c.reply_error.result (λ added memory. rw (no-key string_bytes c.args.self.now.arena (c.in-Err.ensures.no_key.0 (ap Err (refused memory)))) (subst (λ (e : ArenaError). AddsReply c.args.replies.now c.reply_error.new.replies (error_reply e)) (refused memory) added)) c.reply_error.ensures.reply c.reply_error.ensures.memory
