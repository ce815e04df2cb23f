-- How a module is written: section by section.
use Rattle.std.specs.Prelude.{◌≡◌, ◌⊎◌, ℕ, List, [], ◌∷◌, length}
use Rattle.wasmi_module.specs.Texts.{Is, ◌⋅◌, Each}
use Rattle.wasmi_module.specs.Numbers.{IsU32}
use Rattle.wasmi_module.specs.Modules.{Module}
use Rattle.wasmi_module.specs.Format.{Byte, IsVector, IsFuncType, IsImport, IsTableType, IsMemoryType, IsGlobal, IsExport}

-- a section of this number: how many bytes its contents have, and then those
abbrev pub IsSection : ℕ → List ℕ → List ℕ → Type 0
IsSection number contents = Byte number ⋅ IsU32 (length contents) ⋅ Is contents

-- any number of custom sections, whatever is in them
pub record AreCustoms (text : List ℕ) : Type 0 where
  pub customs : List (List ℕ)
  pub written : Each (IsSection 0) customs text

-- a section of these items, with no byte behind the last; one without items may be left out
pub record IsPresent {X : Type 0} (number : ℕ) (Writes : X → List ℕ → Type 0) (xs : List X) (text : List ℕ) : Type 0 where
  pub contents : List ℕ
  pub items : IsVector Writes xs contents
  pub written : IsSection number contents text

abbrev pub IsSectionOf : {X : Type 0} → ℕ → (X → List ℕ → Type 0) → List X → List ℕ → Type 0
IsSectionOf number Writes xs text = IsPresent number Writes xs text ⊎ ((xs ≡ []) × (text ≡ []))

-- custom sections, and then the section of these items
abbrev pub IsNext : {X : Type 0} → ℕ → (X → List ℕ → Type 0) → List X → List ℕ → Type 0
IsNext number Writes xs = AreCustoms ⋅ IsSectionOf number Writes xs

-- a section that is stepped over, or none
abbrev pub IsAny : ℕ → List ℕ → Type 0
IsAny number text = ((contents : List ℕ) × IsSection number contents text) ⊎ (text ≡ [])

-- custom sections, and then the section of this number, whatever is in it
abbrev pub IsSkipped : ℕ → List ℕ → Type 0
IsSkipped number = AreCustoms ⋅ IsAny number

-- a null byte and `asm`, and version 1
abbrev pub header : List ℕ
header = 0 ∷ 97 ∷ 115 ∷ 109 ∷ 1 ∷ 0 ∷ 0 ∷ 0 ∷ []

-- types, imports, functions, tables, memories, globals, exports
abbrev pub AreRead : Module → List ℕ → Type 0
AreRead m =
    IsNext 1 IsFuncType m.types
    ⋅ IsNext 2 IsImport m.imports
    ⋅ IsNext 3 IsU32 m.functions
    ⋅ IsNext 4 IsTableType m.tables
    ⋅ IsNext 5 IsMemoryType m.memories
    ⋅ IsNext 6 IsGlobal m.globals
    ⋅ IsNext 7 IsExport m.exports

-- start, elements, the count of data, code, data
abbrev pub AreSkipped : List ℕ → Type 0
AreSkipped = IsSkipped 8 ⋅ IsSkipped 9 ⋅ IsSkipped 12 ⋅ IsSkipped 10 ⋅ IsSkipped 11 ⋅ AreCustoms

-- these bytes are a writing of the module
abbrev pub IsWritten : Module → List ℕ → Type 0
IsWritten m = Is header ⋅ AreRead m ⋅ AreSkipped
