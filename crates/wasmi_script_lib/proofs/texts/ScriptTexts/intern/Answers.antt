use Rattle.std.proofs.Common.{ℕ, List, Err, codes, decimal, is_ok, string_bytes, ap, subst, true≢false, ◌∙◌}
use Rattle.std.proofs.lemmas.Result.{on_ok_weaker}
use Rattle.wasmi_arena.specs.declared.error.ArenaError.{ArenaError}
use Rattle.wasmi_script_lib.specs.Replies.{error_reply}
use Rattle.wasmi_script_lib.specs.inner.Sessions.{AddsReply, with_texts}
use Rattle.wasmi_script_lib.specs.States.{State, symbols}
use Rattle.wasmi_script_lib.specs.declared.texts.ScriptTexts.{ScriptTexts}
use Rattle.wasmi_script_lib.proofs.DistinctLemmas.{given-number, no-number}
use Rattle.wasmi_script_lib.proofs.ReplyLemmas.{OnOk-both, not_memory, word_text}
use Rattle.wasmi_script_lib.proofs.texts.ScriptTexts.intern.Goals as goal

-- what is kept, with these texts for those of `i`
abbrev with_interned : {A : Type 0} → ScriptTexts A → List (List ℕ) → State
with_interned texts interned = record (with_texts texts) { interned = interned }

pub returns-in_ok-writeln-in-Ok-clause-state : goal.returns-in_ok-writeln-in-Ok-clause-state
returns-in_ok-writeln-in-Ok-clause-state g c =
    let clause = c.in-Ok.ensures in
    ap (with_interned c.args.self.now) (given-number symbols c.args.self.now.interner c.args.text.now c.get_or_intern.new.self c.in-Ok.symbol (λ s is. (clause.there s is).1) clause.new clause.known (λ full. true≢false (ap is_ok (clause.no_symbol.1 full)))).1

pub returns-in_ok-writeln-in-Ok-clause-reply : goal.returns-in_ok-writeln-in-Ok-clause-reply
returns-in_ok-writeln-in-Ok-clause-reply g c =
    let clause = c.in-Ok.ensures in
    rw (given-number symbols c.args.self.now.interner c.args.text.now c.get_or_intern.new.self c.in-Ok.symbol (λ s is. (clause.there s is).1) clause.new clause.known (λ full. true≢false (ap is_ok (clause.no_symbol.1 full)))).0
    (c.in_ok-writeln-in-Ok.ensures.bytes ∙ word_text (string_bytes c.args.replies.now) (codes "sym ") (decimal c.in-Ok.symbol))

pub returns-in-Err-clause-state : goal.returns-in-Err-clause-state
returns-in-Err-clause-state g c =
    let clause = c.in-Err.ensures in let refused = not_memory c.in-Err.error clause.errors in
    on_ok_weaker c.reply_error.result (λ memory. let full = clause.no_symbol.0 (ap Err (refused memory)) in ap (with_interned c.args.self.now) (clause.err ∙ (no-number symbols c.args.self.now.interner c.args.text.now full.0 full.1).1)) c.reply_error.ensures.memory

pub returns-in-Err-clause-reply : goal.returns-in-Err-clause-reply
returns-in-Err-clause-reply g c =
    let clause = c.in-Err.ensures in let refused = not_memory c.in-Err.error clause.errors in
    OnOk-both c.reply_error.result (λ added memory. let full = clause.no_symbol.0 (ap Err (refused memory)) in rw (no-number symbols c.args.self.now.interner c.args.text.now full.0 full.1).0 (subst (λ (e : ArenaError). AddsReply c.args.replies.now c.reply_error.new.replies (error_reply e)) (refused memory) added)) c.reply_error.ensures.reply c.reply_error.ensures.memory
