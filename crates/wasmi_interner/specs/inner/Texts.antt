-- Texts that are joined to one, and where each lies.
use Rattle.std.specs.Prelude.{ℕ, ◌≡◌, ◌+◌, List, [], ◌∷◌, length, map, slice_range, IsCharBoundary}
use Rattle.wasmi_interner.specs.declared.texts.Part.{Part}

-- the texts that are these parts
abbrev pub texts_at : List ℕ → List Part → List (List ℕ)
texts_at joined parts = map (λ part. slice_range joined part.start (part.start + part.len)) parts

-- the parts lie one behind another from a place on, each ends between two characters, and the last at the end
abbrev pub AreJoined : List ℕ → ℕ → List Part → Type 0
AreJoined joined from [] = from ≡ length joined
AreJoined joined from (part ∷ parts) =
    (part.start ≡ from) × IsCharBoundary joined (from + part.len) × AreJoined joined (from + part.len) parts
