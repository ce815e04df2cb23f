-- Runs of commands, whatever takes them.
use Rattle.std.specs.Prelude.{◌≡◌, List, [], ◌∷◌}

module _ {S C R : Type 0} (step : S → C → R → S → Type 0) where
  -- what has these states may give these replies to these commands, one step after another, from old to
  -- new, where `state` tells its state before, between and after them
  abbrev pub IsRun : {V : Type 0} → (V → S) → V → List C → List R → V → Type 0
  IsRun state old [] [] new = new ≡ old
  IsRun {V} state old (command ∷ commands) (reply ∷ replies) new =
      (next : V) × step (state old) command reply (state next)
      × IsRun state next commands replies new
  IsRun state old [] (reply ∷ replies) new = ⊥
  IsRun state old (command ∷ commands) [] new = ⊥
