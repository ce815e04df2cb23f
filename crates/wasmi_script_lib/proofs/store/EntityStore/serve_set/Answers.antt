use Rattle.std.proofs.Common.{◌≡◌, Err, None, Some, codes, decimal, slice_get, string_bytes, length, ap, sym, ◌∙◌}
use Rattle.std.specs.Option.{option_map}
use Rattle.std.proofs.lemmas.Option.{slice_get_past}
use Rattle.std.proofs.lemmas.Result.{on_ok_weaker}
use Rattle.wasmi_script_lib.specs.inner.Sessions.{with_store}
use Rattle.wasmi_script_lib.specs.Store.{Entity}
use Rattle.wasmi_script_lib.proofs.EntityLemmas.{not_past, property_of_none, under_key, was-property}
use Rattle.wasmi_script_lib.proofs.ReplyLemmas.{not_either, word_text}
use Rattle.wasmi_script_lib.proofs.store.EntityStore.serve_set.Goals as goal

pub returns-in_default-clause-state : goal.returns-in_default-clause-state
returns-in_default-clause-state g c =
    on_ok_weaker c.reply_error.result (λ memory. ap with_store (sym (property_of_none c.args.self.now c.args.number (Some c.args.property) c.in_default.ensures.absent))) c.reply_error.ensures.memory

pub returns-in_default-clause-reply : goal.returns-in_default-clause-reply
returns-in_default-clause-reply g c =
    rw (slice_get_past c.args.self.now.entities c.args.number c.in_default.ensures.absent) c.reply_error.ensures.reply

pub returns-in_ok-writeln-in-Ok-Some-clause-reply : goal.returns-in_ok-writeln-in-Ok-Some-clause-reply
returns-in_ok-writeln-in-Ok-Some-clause-reply g c =
    let had : option_map (λ (entity : Entity). entity.property) (slice_get c.args.self.now.entities c.args.number) ≡ Some (Some c.in-Ok-Some.old) = under_key (λ key. option_map (λ (entity : Entity). entity.property) (slice_get c.args.self.now.entities key)) (λ had. had) c.in-Some.key c.args.number c.in-Ok-Some.field-0 (Some c.in-Ok-Some.old) c.in-Some.ensures.there.0 c.in-Ok-Some.ensures.old c.in-Ok-Some.field-0-is in
    rw (was-property _ _ had) (c.in_ok-writeln-in-Ok-Some.ensures.bytes ∙ word_text (string_bytes c.args.replies.now) (codes "was ") (decimal c.in-Ok-Some.old))

pub returns-in_ok-writeln-in-Ok-None-clause-reply : goal.returns-in_ok-writeln-in-Ok-None-clause-reply
returns-in_ok-writeln-in-Ok-None-clause-reply g c =
    let had : option_map (λ (entity : Entity). entity.property) (slice_get c.args.self.now.entities c.args.number) ≡ Some None = under_key (λ key. option_map (λ (entity : Entity). entity.property) (slice_get c.args.self.now.entities key)) (λ had. had) c.in-Some.key c.args.number c.in-Ok-None.field-0 None c.in-Some.ensures.there.0 c.in-Ok-None.ensures.old c.in-Ok-None.field-0-is in
    rw (was-property _ _ had) c.in_ok-writeln-in-Ok-None.ensures.bytes

pub returns-in-Err-clause-state : goal.returns-in-Err-clause-state
returns-in-Err-clause-state g c =
    on_ok_weaker c.reply_error-in-Err.result (λ memory. absurd (not_either c.in-Err.ensures.errors (λ past. not_past c.in-Some.key c.args.number (length c.args.self.now.entities) c.in-Some.ensures.there (c.in-Err.ensures.out_of_bounds.0 (ap Err past))) memory)) c.reply_error-in-Err.ensures.memory

pub returns-in-Err-clause-reply : goal.returns-in-Err-clause-reply
returns-in-Err-clause-reply g c =
    on_ok_weaker c.reply_error-in-Err.result (λ memory. absurd (not_either c.in-Err.ensures.errors (λ past. not_past c.in-Some.key c.args.number (length c.args.self.now.entities) c.in-Some.ensures.there (c.in-Err.ensures.out_of_bounds.0 (ap Err past))) memory)) c.reply_error-in-Err.ensures.memory
