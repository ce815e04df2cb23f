-- How an input is cut into lines.
use Rattle.std.specs.Prelude.{ℕ, List, [], ◌∷◌, ◌==◌, if◌then◌else◌}

-- the lines, where b stands before all of them: b goes onto the first one, and is a line of its own
-- where there is none
abbrev pub onto_first : ℕ → List (List ℕ) → List (List ℕ)
onto_first b [] = (b ∷ []) ∷ []
onto_first b (line ∷ lines) = (b ∷ line) ∷ lines

-- the lines of an input: each ends at a line feed, which isn't part of it, and what follows the last
-- line feed is a line too, unless it is empty. A carriage return is a byte as any other.
-- `a x`, line feed, `n`: two lines.
abbrev pub lines_of : List ℕ → List (List ℕ)
lines_of [] = []
lines_of (b ∷ bs) = if b == 10 then [] ∷ lines_of bs else onto_first b (lines_of bs)
