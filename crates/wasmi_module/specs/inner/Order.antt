-- Which sections a text has, custom ones apart, and in which order.
use Rattle.std.specs.Prelude.{◌≡◌, ◌≢◌, ℕ, zero, suc, ◌<◌, List, [], ◌∷◌, Option, Some, None, All}
use Rattle.wasmi_module.specs.Texts.{Each}
use Rattle.wasmi_module.specs.Format.{IsVector}
use Rattle.wasmi_module.specs.Sections.{IsSection}

-- sections, each a number and its contents
abbrev pub AreSections : List (ℕ × List ℕ) → List ℕ → Type 0
AreSections = Each (λ s. IsSection s.0 s.1)

-- one more section of this number, unless it is custom
abbrev pub unless_custom : ℕ → List ℕ → List (ℕ × List ℕ) → List (ℕ × List ℕ)
unless_custom zero contents sections = sections
unless_custom (suc n) contents sections = (suc n, contents) ∷ sections

-- those that aren't custom
abbrev pub others : List (ℕ × List ℕ) → List (ℕ × List ℕ)
others [] = []
others (s ∷ ss) = unless_custom s.0 s.1 (others ss)

abbrev pub and_part : ℕ → Option (List ℕ) → List (ℕ × List ℕ) → List (ℕ × List ℕ)
and_part number None sections = sections
and_part number (Some contents) sections = unless_custom number contents sections

-- of these numbers in turn the sections that are there
abbrev pub present : List (ℕ × Option (List ℕ)) → List (ℕ × List ℕ)
present [] = []
present (p ∷ ps) = and_part p.0 p.1 (present ps)

-- The bytes are sections: these, and custom ones.
pub record HasSections (parts : List (ℕ × Option (List ℕ))) (bytes : List ℕ) : Type 0 where
  pub sections : List (ℕ × List ℕ)
  pub written : AreSections sections bytes
  pub order : others sections ≡ present parts

-- The bytes aren't sections.
pub record NoSections (bytes : List ℕ) : Type 0 where
  pub none : (sections : List (ℕ × List ℕ)) → ¬ (AreSections sections bytes)

-- The section of this number is to come first, or none of this number.
pub record HasFirst (number : ℕ) (contents : Option (List ℕ)) (parts : List (ℕ × Option (List ℕ))) (bytes : List ℕ) : Type 0 where
  pub positive : 0 < number
  pub once : All (λ p. p.0 ≢ number) parts
  pub all : HasSections ((number, contents) ∷ parts) bytes

-- the contents of a section of these items, which may be left out where there are none
abbrev pub Contents : {X : Type 0} → (X → List ℕ → Type 0) → List X → Option (List ℕ) → Type 0
Contents Writes xs None = xs ≡ []
Contents Writes xs (Some contents) = IsVector Writes xs contents

-- The section of this number has these items and no others, and the others are those after it.
pub record OnlySection {X : Type 0} (number : ℕ) (Writes : X → List ℕ → Type 0) (xs : List X) (before after : List ℕ) : Type 0 where
  pub same : (contents : Option (List ℕ)) (ys : List X) (parts : List (ℕ × Option (List ℕ))) → HasFirst number contents parts before → Contents Writes ys contents → (ys ≡ xs) × HasSections parts after

-- No section of this number comes first that has items of which this holds.
pub record LacksSection {X : Type 0} (number : ℕ) (Writes : X → List ℕ → Type 0) (Holds : List X → Type 0) (bytes : List ℕ) : Type 0 where
  pub none : (contents : Option (List ℕ)) (xs : List X) (parts : List (ℕ × Option (List ℕ))) → HasFirst number contents parts bytes → Contents Writes xs contents → ¬ (Holds xs)

-- What is behind the section of this number, whatever is in it.
pub record Behind (number : ℕ) (before after : List ℕ) : Type 0 where
  pub rest : (contents : Option (List ℕ)) (parts : List (ℕ × Option (List ℕ))) → HasFirst number contents parts before → HasSections parts after

-- the sections that are stepped over, those that are there
pub record HasSkipped (bytes : List ℕ) : Type 0 where
  pub start : Option (List ℕ)
  pub elements : Option (List ℕ)
  pub count : Option (List ℕ)
  pub code : Option (List ℕ)
  pub segments : Option (List ℕ)
  pub all : HasSections ((8, start) ∷ (9, elements) ∷ (12, count) ∷ (10, code) ∷ (11, segments) ∷ []) bytes
