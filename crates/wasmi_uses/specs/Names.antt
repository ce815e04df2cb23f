-- What a symbol table is.
use Rattle.std.specs.Prelude.{◌≡◌, ℕ, List, Some, slice_get}

-- no name stands at two positions
abbrev pub AreDistinct : List (List ℕ) → Type 0
AreDistinct names =
    (i j : ℕ) (name : List ℕ) → slice_get names i ≡ Some name → slice_get names j ≡ Some name
    → i ≡ j
