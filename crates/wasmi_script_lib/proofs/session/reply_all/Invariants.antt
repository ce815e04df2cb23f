use Rattle.std.proofs.Common.{◌≡◌, ◌+◌, ◌≤◌, cond, [], ◌++◌, length, string_bytes}
use Rattle.std.specs.Str.Iter.{split_text, split_has_more, split_terminator_parts, split_terminator_pattern}
use Rattle.wasmi_script_lib.specs.Lines.{lines_of}
use Rattle.wasmi_script_lib.specs.Outputs.{output_from, output_of}
use Rattle.wasmi_script_lib.specs.inner.Sessions.{state_of}
use Rattle.wasmi_script_lib.proofs.session.reply_all.Given as goal

abbrev pub invariant-loop-line : goal.invariant-loop-line
invariant-loop-line g l =
    let parts = split_terminator_parts l.line-iterator in
    let left = cond (split_has_more parts) (lines_of (split_text parts)) [] in
    (goal.iterator-loop-line g).can_next l.line-iterator
    × (goal.iterator-loop-line g).is_finite l.line-iterator
    × (split_terminator_pattern l.line-iterator ≡ 10)
    × (string_bytes l.replies ++ output_from (state_of l.texts l.store) l.number left ≡ output_of l.text)
    × (l.number + length left ≤ length l.text)
