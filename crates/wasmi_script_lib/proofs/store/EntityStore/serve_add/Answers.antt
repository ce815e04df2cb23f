use Rattle.std.proofs.Common.{[], ◌∷◌, ◌++◌, Err, codes, decimal, is_ok, string_bytes, ap, subst, true≢false, ◌∙◌}
use Rattle.std.proofs.lemmas.Result.{on_ok_weaker}
use Rattle.wasmi_arena.specs.declared.error.ArenaError.{ArenaError}
use Rattle.wasmi_script_lib.specs.Replies.{error_reply}
use Rattle.wasmi_script_lib.specs.inner.Sessions.{AddsReply, with_store}
use Rattle.wasmi_script_lib.proofs.EntityLemmas.{key-added, no-entity_key}
use Rattle.wasmi_script_lib.proofs.ReplyLemmas.{OnOk-both, not_memory, word_text}
use Rattle.wasmi_script_lib.proofs.store.EntityStore.serve_add.Goals as goal

pub returns-in_ok-writeln-in-Ok-clause-state : goal.returns-in_ok-writeln-in-Ok-clause-state
returns-in_ok-writeln-in-Ok-clause-state g c =
    rw (key-added c.args.self.now c.args.name.now (λ full. true≢false (ap is_ok (c.in-Ok.ensures.no_key.1 full)))) (ap with_store c.in-Ok.ensures.ok)

pub returns-in_ok-writeln-in-Ok-clause-reply : goal.returns-in_ok-writeln-in-Ok-clause-reply
returns-in_ok-writeln-in-Ok-clause-reply g c =
    let old = string_bytes c.args.replies.now in
    rw (key-added c.args.self.now c.args.name.now (λ full. true≢false (ap is_ok (c.in-Ok.ensures.no_key.1 full))))
    (c.in_ok-writeln-in-Ok.ensures.bytes ∙ (word_text old (codes "entity ") (decimal c.into_usize.result) ∙ ap (λ n. old ++ ((codes "entity " ++ decimal n) ++ (10 ∷ []))) (c.into_usize.ensures.number ∙ c.in-Ok.ensures.key)))

pub returns-in-Err-clause-state : goal.returns-in-Err-clause-state
returns-in-Err-clause-state g c =
    let clause = c.in-Err.ensures in let refused = not_memory c.in-Err.error clause.errors in
    on_ok_weaker c.reply_error.result (λ memory. let is = ap Err (refused memory) in rw (no-entity_key c.args.self.now c.args.name.now (clause.no_key.0 is)) (ap with_store (clause.unchanged is))) c.reply_error.ensures.memory

pub returns-in-Err-clause-reply : goal.returns-in-Err-clause-reply
returns-in-Err-clause-reply g c =
    let clause = c.in-Err.ensures in let refused = not_memory c.in-Err.error clause.errors in
    OnOk-both c.reply_error.result (λ added memory. rw (no-entity_key c.args.self.now c.args.name.now (clause.no_key.0 (ap Err (refused memory)))) (subst (λ (e : ArenaError). AddsReply c.args.replies.now c.reply_error.new.replies (error_reply e)) (refused memory) added)) c.reply_error.ensures.reply c.reply_error.ensures.memory
