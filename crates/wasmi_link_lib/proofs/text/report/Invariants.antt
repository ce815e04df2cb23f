use Rattle.std.proofs.Common.{◌≡◌, ◌∷◌, [], ◌++◌, take, string_bytes}
use Rattle.std.specs.List.{flat_map}
use Rattle.wasmi_link_lib.specs.Lines.{line_of}
use Rattle.wasmi_link_lib.specs.Report.{line_text}
use Rattle.wasmi_link_lib.proofs.text.report.Given as goal

abbrev pub invariant-loop-line : goal.invariant-loop-line
invariant-loop-line g l =
    string_bytes l.text ≡ flat_map (λ line. line_text (line_of line) ++ 10 ∷ []) (take l.line-index l.line-items)
