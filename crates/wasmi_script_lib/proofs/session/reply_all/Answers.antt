use Rattle.std.proofs.Common.{◌≡◌, ℕ, [], ◌∷◌, cond, ap, subst, refl, sym, ◌∙◌, append-nil, string_bytes, arith}
use Rattle.std.specs.Str.Iter.{split_text, split_has_more, split_terminator_parts}
use Rattle.std.specs.Str.Pattern.{FindsChar}
use Rattle.wasmi_script_lib.specs.Lines.{lines_of}
use Rattle.wasmi_script_lib.proofs.LineLemmas.{lines_of-step, lines_of-end, length-lines_of-le}
use Rattle.wasmi_script_lib.proofs.OutputLemmas.{output-served}
use Rattle.wasmi_script_lib.proofs.session.reply_all.Goals as goal

pub loop-line-init : goal.loop-line-init
loop-line-init g c =
    let split = c.split_terminator-line-items.ensures in
    let few = length-lines_of-le c.args.text.now in
    rw (c.into_iter-line-iterator.ensures.into_iter_gives, split.has_more, split.text, c.requires.empty, c.requires.unanswered)
    (tt, tt, split.pattern, refl, omega (arith, few))

pub loop-line-preserved : goal.loop-line-preserved
loop-line-preserved g c =
    let inv = c.loop-line.invariant in
    let old = split_terminator_parts c.loop-line.line-iterator in
    let new = split_terminator_parts c.next.new.self in
    let line = c.in-Some.line.now in
    let lines = cond (split_has_more new) (lines_of (split_text new)) [] in
    let step = c.in-Some.ensures.steps in
    let cut = step.2.1 in
    let finds = subst (λ (d : ℕ). FindsChar d (split_text old) cut.0) inv.2 cut.1 in
    let first : cond (split_has_more old) (lines_of (split_text old)) [] ≡ line ∷ lines =
    ap (λ b. cond b (lines_of (split_text old)) []) step.0
    ∙ lines_of-step (split_text old) line (split_text new) (split_has_more new) cut.0 finds cut.2 step.3 in
    let served = c.in_ok-serve.ensures in
    let whole = rw first at inv.3 in
    let count = rw first at inv.4 in
    (tt, tt, step.1 ∙ inv.2, output-served _ _ _ line lines _ _ _ _ whole served.reply served.state refl, omega (arith, count))

pub returns-clause-output : goal.returns-clause-output
returns-clause-output g c =
    let inv = c.loop-line.invariant in
    let parts = split_terminator_parts c.loop-line.line-iterator in
    let none_left = lines_of-end (split_text parts) (split_has_more parts) (rw inv.2 at c.in-None.ensures.steps.0) in
    sym (append-nil (string_bytes c.loop-line.replies)) ∙ rw none_left at inv.3
