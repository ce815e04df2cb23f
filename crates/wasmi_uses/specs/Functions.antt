-- A table of functions by name, and how it is kept. A contract sees a list: of each its name, in bytes, and its value.
use Rattle.std.specs.Prelude.{◌≡◌, ◌≢◌, ◌<◌, ◌↔◌, ℕ, Bool, true, false, List, [], ◌∷◌, ◌++◌, length, map, Option, Some, option_map, slice_get, slice_index_or}
use Rattle.wasmi_map_specs.specs.Maps.{value_at}
use Rattle.wasmi_uses.specs.declared.functions.Function.{Function}

-- the name of the function under a key, if there is one
abbrev pub name_at : List (List ℕ × ℕ) → ℕ → Option (List ℕ)
name_at functions key = option_map (λ function. function.0) (slice_get functions key)

-- no function has this name
abbrev pub IsFree : List (List ℕ × ℕ) → List ℕ → Type 0
IsFree functions name = (key : ℕ) → name_at functions key ≢ Some name

-- What `define` returns and leaves: a new name goes to the end with its value, and where it is there nothing changes.
abbrev pub Defines : List (List ℕ × ℕ) → List ℕ → ℕ → ℕ × Bool → List (List ℕ × ℕ) → Type 0
Defines old name value (key, true) new = IsFree old name × (key ≡ length old) × (new ≡ old ++ (name, value) ∷ [])
Defines old name value (key, false) new = (name_at old key ≡ Some name) × (new ≡ old)

-- a function as a contract sees it, by the names of all symbols
abbrev pub shown : List (List ℕ) → Function → List ℕ × ℕ
shown names function = (slice_index_or names function.symbol [], function.value)

-- the symbol of each function's name
abbrev pub symbols_of : List Function → List ℕ
symbols_of functions = map (λ function. function.symbol) functions

-- The functions have these symbols, each of which has a name. Under a symbol stands the key of the one function that
-- has it, and nothing under other symbols. `eq` says which symbols are equal.
pub record IsSound (eq : ℕ → ℕ → Bool) (names : List (List ℕ)) (keys : List (ℕ × ℕ)) (symbols : List ℕ) : Type 0 where
  pub named : (key symbol : ℕ) → slice_get symbols key ≡ Some symbol → symbol < length names
  pub keyed : (key symbol : ℕ) → (slice_get symbols key ≡ Some symbol) ↔ (value_at eq keys symbol ≡ Some key)
