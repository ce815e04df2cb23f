-- The output of a script: the replies to its lines, in order.
use Rattle.std.specs.Prelude.{ℕ, ◌+◌, List, [], ◌∷◌, ◌++◌, Option, Some, None, codes, decimal}
use Rattle.wasmi_script_lib.specs.Lines.{lines_of}
use Rattle.wasmi_script_lib.specs.Requests.{Request, request_of}
use Rattle.wasmi_script_lib.specs.States.{State, empty, reply_to, state_after}

-- the reply to the line of this number: where it asks for nothing, that it is bad.
-- Line 7, `q`: `bad line 7`.
abbrev pub line_reply : State → ℕ → Option Request → List ℕ
line_reply state number (Some request) = reply_to state request
line_reply state number None = codes "bad line " ++ decimal number

-- the state after a line: one that asks for nothing changes nothing
abbrev pub state_after_line : State → Option Request → State
state_after_line state (Some request) = state_after state request
state_after_line state None = state

-- the replies to these lines, each ended by a line feed, where so many lines came before and left
-- this state
abbrev pub output_from : State → ℕ → List (List ℕ) → List ℕ
output_from state before [] = []
output_from state before (line ∷ lines) =
    line_reply state (before + 1) (request_of line)
    ++ 10 ∷ output_from (state_after_line state (request_of line)) (before + 1) lines

-- the replies to all lines of an input, from nothing and line 1 on.
-- Of the empty input: nothing.
abbrev pub output_of : List ℕ → List ℕ
output_of input = output_from empty 0 (lines_of input)
