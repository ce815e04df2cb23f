-- Texts are lists of bytes. A form of texts says which of them are the writing of one thing.
use Rattle.std.specs.Prelude.{◌≡◌, ℕ, List, [], ◌∷◌, ◌++◌}

-- this text alone
abbrev pub Is : List ℕ → List ℕ → Type 0
Is bytes text = text ≡ bytes

-- a text of the first form, and then one of the second
pub record Then (P Q : List ℕ → Type 0) (text : List ℕ) : Type 0 where
  pub front : List ℕ
  pub back : List ℕ
  pub parts : text ≡ front ++ back
  pub first : P front
  pub second : Q back

infixr 5 ◌⋅◌
abbrev pub ◌⋅◌ : (P Q : List ℕ → Type 0) → List ℕ → Type 0
P ⋅ Q = Then P Q

-- the writings of these items, one after another
abbrev pub Each : {X : Type 0} → (X → List ℕ → Type 0) → List X → List ℕ → Type 0
Each Writes [] = Is []
Each Writes (x ∷ xs) = Writes x ⋅ Each Writes xs
