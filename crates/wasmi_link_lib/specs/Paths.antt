-- The name of the module in a file.
use Rattle.std.specs.Prelude.{◌≡◌, ◌≢◌, ◌⊎◌, ℕ, List, [], ◌∷◌, ◌++◌, Contains, codes}

-- what a path has behind its folder, which ends in a slash
pub record IsFileName (path file : List ℕ) : Type 0 where
  pub folder : List ℕ
  pub parts : path ≡ folder ++ file
  pub ended : (folder ≡ []) ⊎ ((front : List ℕ) × (folder ≡ front ++ 47 ∷ []))
  pub last : Contains file 47 → ⊥

-- a file's name without `.wasm` at its end, or as it is where that isn't there
abbrev pub IsStem : List ℕ → List ℕ → Type 0
IsStem file stem = (file ≡ stem ++ codes ".wasm") ⊎ ((file ≡ stem) × ((front : List ℕ) → file ≢ front ++ codes ".wasm"))

-- a file's name without its folder and `.wasm`.
-- Of `libs/env.wasm`: `env`.
pub record IsModuleName (path name : List ℕ) : Type 0 where
  pub file : List ℕ
  pub is_file : IsFileName path file
  pub is_stem : IsStem file name
