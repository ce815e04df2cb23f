use Rattle.std.proofs.Common.{ℕ, ◌≤◌, List, [], ◌∷◌, ◌++◌, Err, codes, decimal, is_ok, map, string_bytes, ap, sym, subst, true≢false, ◌∙◌}
use Rattle.std.specs.declared.string.String.{String}
use Rattle.std.proofs.lemmas.List.{length-map}
use Rattle.std.proofs.lemmas.Result.{on_ok_weaker}
use Rattle.wasmi_arena.specs.declared.error.ArenaError.{ArenaError}
use Rattle.wasmi_collections.specs.Dedup.{DedupState}
use Rattle.wasmi_script_lib.specs.Replies.{error_reply}
use Rattle.wasmi_script_lib.specs.inner.Sessions.{AddsReply, with_texts}
use Rattle.wasmi_script_lib.specs.States.{State, keys}
use Rattle.wasmi_script_lib.specs.declared.texts.ScriptTexts.{ScriptTexts}
use Rattle.wasmi_script_lib.proofs.DistinctLemmas.{given-number, no-number}
use Rattle.wasmi_script_lib.proofs.ReplyLemmas.{OnOk-both, not_memory, word_text}
use Rattle.wasmi_script_lib.proofs.texts.ScriptTexts.dedup.Goals as goal

-- what is kept, with these texts for those of `d`
abbrev with_deduped : {A : Type 0} → ScriptTexts A → List (List ℕ) → State
with_deduped texts deduped = record (with_texts texts) { deduped = deduped }

abbrev texts_of : {A : Type 0} → DedupState (String A) → List (List ℕ)
texts_of arena = map string_bytes arena.handed

pub returns-in_ok-writeln-in-Ok-clause-state : goal.returns-in_ok-writeln-in-Ok-clause-state
returns-in_ok-writeln-in-Ok-clause-state g c =
    let old = c.args.self.now.dedup in let new = c.alloc_str.new.self in let clause = c.in-Ok.ensures in
    ap (with_deduped c.args.self.now) (given-number keys (texts_of old) c.args.text.now (texts_of new) c.in-Ok.key
    (λ place is. ap texts_of (clause.there place is).1)
    (λ absent. let given = clause.new absent in let told = c.texts_handed_in.ensures.allocated old new given.0 c.in-Ok.key (rw given.1 absent) given.2 in (told.0 ∙ sym (length-map old.handed string_bytes), told.1 ∙ ap (λ (text : List ℕ). texts_of old ++ text ∷ []) given.1))
    clause.known (λ full. true≢false (ap is_ok (clause.no_key.1 (full.0, subst (λ n. keys ≤ n) (length-map old.handed string_bytes) full.1))))).1

pub returns-in_ok-writeln-in-Ok-clause-reply : goal.returns-in_ok-writeln-in-Ok-clause-reply
returns-in_ok-writeln-in-Ok-clause-reply g c =
    let old = c.args.self.now.dedup in let new = c.alloc_str.new.self in let clause = c.in-Ok.ensures in
    rw (given-number keys (texts_of old) c.args.text.now (texts_of new) c.in-Ok.key
    (λ place is. ap texts_of (clause.there place is).1)
    (λ absent. let given = clause.new absent in let told = c.texts_handed_in.ensures.allocated old new given.0 c.in-Ok.key (rw given.1 absent) given.2 in (told.0 ∙ sym (length-map old.handed string_bytes), told.1 ∙ ap (λ (text : List ℕ). texts_of old ++ text ∷ []) given.1))
    clause.known (λ full. true≢false (ap is_ok (clause.no_key.1 (full.0, subst (λ n. keys ≤ n) (length-map old.handed string_bytes) full.1))))).0
    (c.in_ok-writeln-in-Ok.ensures.bytes ∙ word_text (string_bytes c.args.replies.now) (codes "key ") (decimal c.in-Ok.key))

pub returns-in-Err-clause-state : goal.returns-in-Err-clause-state
returns-in-Err-clause-state g c =
    let old = c.args.self.now.dedup in let clause = c.in-Err.ensures in let refused = not_memory c.in-Err.error clause.errors in
    on_ok_weaker c.reply_error.result (λ memory. let full = clause.no_key.0 (ap Err (refused memory)) in
    ap (λ dedup. with_texts (record c.args.self.now { dedup = dedup })) clause.err
    ∙ ap (with_deduped c.args.self.now) (no-number keys (texts_of old) c.args.text.now full.0 (subst (λ n. keys ≤ n) (sym (length-map old.handed string_bytes)) full.1)).1) c.reply_error.ensures.memory

pub returns-in-Err-clause-reply : goal.returns-in-Err-clause-reply
returns-in-Err-clause-reply g c =
    let old = c.args.self.now.dedup in let clause = c.in-Err.ensures in let refused = not_memory c.in-Err.error clause.errors in
    OnOk-both c.reply_error.result (λ added memory. let full = clause.no_key.0 (ap Err (refused memory)) in
    rw (no-number keys (texts_of old) c.args.text.now full.0 (subst (λ n. keys ≤ n) (sym (length-map old.handed string_bytes)) full.1)).0
    (subst (λ (e : ArenaError). AddsReply c.args.replies.now c.reply_error.new.replies (error_reply e)) (refused memory) added)) c.reply_error.ensures.reply c.reply_error.ensures.memory
