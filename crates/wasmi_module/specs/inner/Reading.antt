-- What a reader reads of bytes, and what is not written there.
use Rattle.std.specs.Prelude.{◌≡◌, ℕ, List, ◌++◌}

-- A text of this form stands at the front of the bytes before, and the bytes after are the rest.
pub record Reads (P : List ℕ → Type 0) (before after : List ℕ) : Type 0 where
  pub text : List ℕ
  pub is_text : P text
  pub parts : before ≡ text ++ after

-- No text of these forms stands at the front of the bytes.
pub record Lacks {X : Type 0} (Writes : X → List ℕ → Type 0) (bytes : List ℕ) : Type 0 where
  pub none : (x : X) (after : List ℕ) → ¬ (Reads (Writes x) bytes after)

-- the writings of a thing of which this holds
pub record With {X : Type 0} (Writes : X → List ℕ → Type 0) (Holds : X → Type 0) (x : X) (text : List ℕ) : Type 0 where
  pub written : Writes x text
  pub holds : Holds x

-- Only a writing of this thing stands at the front of the bytes before, and then those after are the rest.
pub record Only {X : Type 0} (Writes : X → List ℕ → Type 0) (x : X) (before after : List ℕ) : Type 0 where
  pub same : (y : X) (rest : List ℕ) → Reads (Writes y) before rest → (y ≡ x) × (rest ≡ after)
