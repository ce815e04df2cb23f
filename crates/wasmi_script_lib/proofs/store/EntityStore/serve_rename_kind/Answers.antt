use Rattle.std.proofs.Common.{◌≡◌, false, Err, Some, is_ok, length, slice_get, ap, sym, subst, true≢false, ◌∙◌}
use Rattle.std.proofs.lemmas.Bool.{false_from_ne_true}
use Rattle.std.proofs.lemmas.Option.{slice_get_past}
use Rattle.std.proofs.lemmas.Result.{on_ok_weaker}
use Rattle.wasmi_arena.specs.declared.error.ArenaError.{ArenaError}
use Rattle.wasmi_script_lib.specs.Replies.{error_reply}
use Rattle.wasmi_script_lib.specs.inner.Sessions.{AddsReply, with_store}
use Rattle.wasmi_script_lib.specs.Store.{is_other_kind}
use Rattle.wasmi_script_lib.proofs.EntityLemmas.{is-duplicate, not_past}
use Rattle.wasmi_script_lib.proofs.ReplyLemmas.{OnOk-both}
use Rattle.wasmi_script_lib.proofs.store.EntityStore.serve_rename_kind.Goals as goal

pub returns-in_default-clause-state : goal.returns-in_default-clause-state
returns-in_default-clause-state g c =
    on_ok_weaker c.reply_error.result (λ memory. rw (slice_get_past c.args.self.now.entities c.args.number c.in_default.ensures.absent) (λ i. with_store c.args.self.now)) c.reply_error.ensures.memory

pub returns-in_default-clause-reply : goal.returns-in_default-clause-reply
returns-in_default-clause-reply g c =
    rw (slice_get_past c.args.self.now.entities c.args.number c.in_default.ensures.absent) c.reply_error.ensures.reply

pub returns-in_ok-writeln-in-Ok-clause-state : goal.returns-in_ok-writeln-in-Ok-clause-state
returns-in_ok-writeln-in-Ok-clause-state g c =
    let store = c.args.self.now in let renamed = c.in-Ok.ensures.ok in
    let found : slice_get store.entities c.args.number ≡ Some renamed.0 = sym (ap (slice_get store.entities) c.in-Some.ensures.there.0) ∙ renamed.1 in
    let same : is_other_kind store renamed.0 c.args.kind.now ≡ false = false_from_ne_true _ (λ other. true≢false (ap is_ok (c.in-Ok.ensures.duplicate.1 (renamed.0, renamed.1, other)))) in
    rw (found, same) (ap with_store renamed.2)

pub returns-in_ok-writeln-in-Ok-clause-reply : goal.returns-in_ok-writeln-in-Ok-clause-reply
returns-in_ok-writeln-in-Ok-clause-reply g c =
    let store = c.args.self.now in let renamed = c.in-Ok.ensures.ok in
    let found : slice_get store.entities c.args.number ≡ Some renamed.0 = sym (ap (slice_get store.entities) c.in-Some.ensures.there.0) ∙ renamed.1 in
    let same : is_other_kind store renamed.0 c.args.kind.now ≡ false = false_from_ne_true _ (λ other. true≢false (ap is_ok (c.in-Ok.ensures.duplicate.1 (renamed.0, renamed.1, other)))) in
    rw (found, same) c.in_ok-writeln-in-Ok.ensures.bytes

pub returns-in-Err-clause-state : goal.returns-in-Err-clause-state
returns-in-Err-clause-state g c =
    let store = c.args.self.now in let clause = c.in-Err.ensures in let at = c.in-Some.ensures.there in
    let duplicate = is-duplicate c.in-Err.error clause.errors (λ past. not_past c.in-Some.key c.args.number (length store.entities) at (clause.out_of_bounds.0 (ap Err past))) in
    on_ok_weaker c.reply_error-in-Err.result (λ memory.
    let other = clause.duplicate.0 (ap Err (duplicate memory)) in
    let found : slice_get store.entities c.args.number ≡ Some other.0 = sym (ap (slice_get store.entities) at.0) ∙ other.1 in
    rw (found, other.2) (ap with_store clause.err)
    ) c.reply_error-in-Err.ensures.memory

pub returns-in-Err-clause-reply : goal.returns-in-Err-clause-reply
returns-in-Err-clause-reply g c =
    let store = c.args.self.now in let clause = c.in-Err.ensures in let at = c.in-Some.ensures.there in
    let duplicate = is-duplicate c.in-Err.error clause.errors (λ past. not_past c.in-Some.key c.args.number (length store.entities) at (clause.out_of_bounds.0 (ap Err past))) in
    OnOk-both c.reply_error-in-Err.result (λ added memory.
    let other = clause.duplicate.0 (ap Err (duplicate memory)) in
    let found : slice_get store.entities c.args.number ≡ Some other.0 = sym (ap (slice_get store.entities) at.0) ∙ other.1 in
    rw (found, other.2) (subst (λ (e : ArenaError). AddsReply c.args.replies.now c.reply_error-in-Err.new.replies (error_reply e)) (duplicate memory) added)
    ) c.reply_error-in-Err.ensures.reply c.reply_error-in-Err.ensures.memory
