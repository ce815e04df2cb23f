-- How the output grows by one line.
-- for src/session.rt
use Rattle.std.proofs.Common.{◌≡◌, ℕ, ◌+◌, List, [], ◌∷◌, ◌++◌, append_assoc, ap, ◌∙◌}
use Rattle.wasmi_script_lib.specs.Requests.{request_of}
use Rattle.wasmi_script_lib.specs.States.{State}
use Rattle.wasmi_script_lib.specs.Outputs.{line_reply, output_from, state_after_line}

-- a line that is answered moves its reply from what is left to what is written
pub output-served : (out old new line : List ℕ) (lines : List (List ℕ)) (before after : ℕ) (state kept : State)
    → old ++ output_from state before (line ∷ lines) ≡ out
    → new ≡ old ++ (line_reply state (before + 1) (request_of line) ++ (10 ∷ []))
    → kept ≡ state_after_line state (request_of line) → after ≡ before + 1
    → new ++ output_from kept after lines ≡ out
output-served out old new line lines before after state kept whole reply kept_is after_is =
    let text = line_reply state (before + 1) (request_of line) in
    let more = output_from (state_after_line state (request_of line)) (before + 1) lines in
    rw (reply, kept_is, after_is)
    (append_assoc old (text ++ (10 ∷ [])) more ∙ ap (λ t. old ++ t) (append_assoc text (10 ∷ []) more) ∙ whole)
