use Rattle.std.proofs.Common.{◌≡◌, Some, None, true, false, codes, ltb, slice_get, string_bytes, ap, sym, ◌∙◌}
use Rattle.std.proofs.lemmas.Bool.{false_from_ne_true, lt-ltb, ltb-true}
use Rattle.wasmi_script_lib.specs.States.{symbols}
use Rattle.wasmi_script_lib.proofs.ReplyLemmas.{OnOk-same, word_text}
use Rattle.wasmi_script_lib.proofs.texts.ScriptTexts.resolve.Goals as goal

pub returns-in_default : goal.returns-in_default
returns-in_default g c =
    let above : ltb c.args.symbol symbols ≡ false = false_from_ne_true _ (λ below. c.in_default.ensures (ltb-true _ _ below)) in
    rw above c.writeln.ensures.bytes

pub returns-in-Some : goal.returns-in-Some
returns-in-Some g c =
    let below : ltb c.args.symbol symbols ≡ true = lt-ltb _ _ c.in-Ok.ensures.0 in
    let found : slice_get c.args.self.now.interner c.args.symbol ≡ Some c.in-Some.text.now = sym (ap (slice_get c.args.self.now.interner) (c.from_u32.ensures ∙ c.in-Ok.ensures.1)) ∙ sym c.in-Some.ensures in
    rw (below, found) (OnOk-same _ _ _ _ (word_text (string_bytes c.args.replies.now) (codes "text ") c.in-Some.text.now) c.writeln-in-Some.ensures.bytes)

pub returns-in-None : goal.returns-in-None
returns-in-None g c =
    let below : ltb c.args.symbol symbols ≡ true = lt-ltb _ _ c.in-Ok.ensures.0 in
    let found : slice_get c.args.self.now.interner c.args.symbol ≡ None = sym (ap (slice_get c.args.self.now.interner) (c.from_u32.ensures ∙ c.in-Ok.ensures.1)) ∙ sym c.in-None.ensures in
    rw (below, found) c.writeln-in-None.ensures.bytes
