-- What went in of an iterator's items where the last bucket has room.
use Rattle.std.specs.Prelude.{◌≡◌, List, ◌++◌, Option, MatchOption}
use Rattle.std.specs.Iterator.{Yields, Drains}

-- an iterator yielded these items, and this is what is left of it, unless it ended
abbrev pub Came : {S T : Type 0} → (S → Option T → S → Type 0) → S → Option S → List T → Type 0
Came steps it rest xs = MatchOption rest (Drains steps it xs) (λ left. Yields steps it xs left)

-- and they went in at the end, in order
abbrev pub TakesSome : {S T : Type 0} → (S → Option T → S → Type 0) → S → Option S → List T → List T → Type 0
TakesSome {S} {T} steps it rest old new = (xs : List T) × (new ≡ old ++ xs) × Came steps it rest xs
