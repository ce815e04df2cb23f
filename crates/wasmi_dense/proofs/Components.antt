-- Facts on the components of a component vector.
-- for src/component_vec.rt, src/laws.rt
use Rattle.std.proofs.Common.{◌≡◌, ℕ, zero, suc, Bool, List, [], ◌∷◌, ◌++◌, Option, Some, None, refl, sym, ◌∙◌, ap, arith}
use Rattle.std.proofs.lemmas.Slice.Eq.{slice_eq-Decides}
use Rattle.std.specs.Bool.{Decides}
use Rattle.std.specs.Cmp.Lexicographic.{pointwise}
use Rattle.std.specs.List.{FoldsTo}
use Rattle.std.specs.Option.{option_eq}
use Rattle.wasmi_dense.specs.Components.{component_at, extent}

module _ {T : Type 0} where
  pub same_slots : (a b : List (Option T)) → extent a ≡ extent b → ((number : ℕ) → component_at a number ≡ component_at b number) → a ≡ b
  same_slots [] [] long same = refl
  same_slots [] (y ∷ ys) long same = absurd (omega arith)
  same_slots (x ∷ xs) [] long same = absurd (omega arith)
  same_slots (x ∷ xs) (y ∷ ys) long same = λ i. same 0 i ∷ same_slots xs ys (omega arith) (λ number. same (suc number)) i

  component_at-nil : (number : ℕ) → component_at {T = T} [] number ≡ None
  component_at-nil zero = refl
  component_at-nil (suc number) = refl

  -- places without a component at the end read as no places
  module _ {F : Type 0} {step : F → Option T → F → Type 0} where
    component_at-empty : (slots : List (Option T)) (first last : F) → FoldsTo step first slots last → ((before after : F) (slot : Option T) → step before slot after → slot ≡ None)
        → (number : ℕ) → component_at slots number ≡ None
    component_at-empty [] first last made empty number = component_at-nil number
    component_at-empty (slot ∷ slots) first last made empty zero = empty first made.0 slot made.1
    component_at-empty (slot ∷ slots) first last made empty (suc number) = component_at-empty slots made.0 last made.2 empty number

    pub component_at-append : (old more : List (Option T)) (first last : F) → FoldsTo step first more last → ((before after : F) (slot : Option T) → step before slot after → slot ≡ None)
        → (number : ℕ) → component_at (old ++ more) number ≡ component_at old number
    component_at-append [] more first last made empty number = component_at-empty more first last made empty number ∙ sym (component_at-nil number)
    component_at-append (slot ∷ old) more first last made empty zero = refl
    component_at-append (slot ∷ old) more first last made empty (suc number) = component_at-append old more first last made empty number

  -- where the test of two components finds out whether they are the same, so does that of two vectors
  module _ {E : T → T → Bool} (decides : (x y : T) → Decides (E x y) (x ≡ y)) where
    option_eq-Decides : (x y : Option T) → Decides (option_eq E x y) (x ≡ y)
    option_eq-Decides None None = (λ equal. refl, λ same. refl)
    option_eq-Decides None (Some y) = (λ equal. absurd (cc), λ same. absurd (cc))
    option_eq-Decides (Some x) None = (λ equal. absurd (cc), λ same. absurd (cc))
    option_eq-Decides (Some x) (Some y) = (λ equal. ap Some ((decides x y).0 equal), λ same. (decides x y).1 (cc))

    pub equal-Decides : (a b : List (Option T)) (r : Bool) → r ≡ pointwise (option_eq E) a b → Decides r ((extent a ≡ extent b) × ((number : ℕ) → component_at a number ≡ component_at b number))
    equal-Decides a b r is =
        let told = slice_eq-Decides option_eq-Decides a b r is in
        (λ equal. let same = told.0 equal in (ap extent same, λ number. ap (λ (slots : List (Option T)). component_at slots number) same), λ same. told.1 (same_slots a b same.0 same.1))
