-- What the arena does with one more text, as what a list does.
-- for src/texts.rt, src/session.rt
use Rattle.std.proofs.Common.{◌≡◌, ℕ, ◌<◌, ◌≤◌, List, [], ◌∷◌, ◌++◌, map, length, Bool, true, false, cond, ltb, refl, ap, ◌∙◌, arith}
use Rattle.std.proofs.lemmas.Bool.{lt-ltb, le-ltb}
use Rattle.std.proofs.lemmas.List.{length-map, map-append}
use Rattle.wasmi_arena.specs.Geometry.{max_len}

module _ {X : Type 0} (bytes : X → List ℕ) (old : List X) where
  -- a text that gets a key goes to the end
  pub kept-last : (text : List ℕ) (value : X) (new : List X) → bytes value ≡ text → new ≡ old ++ value ∷ [] → length old < max_len
      → (ltb (length (map bytes old)) max_len ≡ true) × (map bytes new ≡ map bytes old ++ text ∷ [])
  kept-last text value new e added below =
      (lt-ltb _ _ (omega (arith, below, length-map old bytes)), ap (map bytes) added ∙ map-append bytes old (value ∷ []) ∙ ap (λ t. map bytes old ++ t ∷ []) e)

  -- and one that there is no key for doesn't
  pub no-key : max_len ≤ length old → ltb (length (map bytes old)) max_len ≡ false
  no-key full = le-ltb _ _ (omega (arith, full, length-map old bytes))

-- what is made of one of two things is one of what is made of the two
pub of-either : {A B : Type 0} (f : A → B) (b : Bool) (x y : A) → f (cond b x y) ≡ cond b (f x) (f y)
of-either f true x y = refl
of-either f false x y = refl
