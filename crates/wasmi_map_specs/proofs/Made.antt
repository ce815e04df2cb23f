-- What is known of a result is known of the one that is made of it.
-- for the proofs by hand of wasmi_ordered and wasmi_hashed
use Rattle.std.proofs.Common.{◌≡◌, refl, sym, ap, subst}
use Rattle.std.specs.Borrow.{name_if_ok}
use Rattle.std.specs.Prelude.{Result, Ok, Err, IfOk, OnErr, IsOkUnless}
use Rattle.wasmi_map_specs.specs.inner.Made.{IsMadeOf}
use base.Fml.{GName}
use mathlib.Core.Option.{some}

module _ {There Here Failed Error : Type 0} (inner : Here → There) (out : Error) where
  pub of_entry : (P : There → Type 0) (there : Result There Failed) (here : Result Here Error) → IsMadeOf inner out there here → IfOk there P → IfOk here (λ h. P (inner h))
  of_entry P (Ok p) (Ok h) same known = subst P (sym same) known
  of_entry P (Ok p) (Err e) same known = absurd same
  of_entry P (Err failed) (Ok h) same known = absurd same
  of_entry P (Err failed) (Err e) same known = tt

  pub of_absence : (P : Type 0) (there : Result There Failed) (here : Result Here Error) → IsMadeOf inner out there here → OnErr there P → OnErr here P
  of_absence P (Ok p) (Ok h) same known = tt
  of_absence P (Ok p) (Err e) same known = absurd same
  of_absence P (Err failed) (Ok h) same known = absurd same
  of_absence P (Err failed) (Err e) same known = known

  pub of_failure : (there : Result There Failed) (here : Result Here Error) → IsMadeOf inner out there here → IsOkUnless here out
  of_failure (Ok p) (Ok h) same = tt
  of_failure (Ok p) (Err e) same = absurd same
  of_failure (Err failed) (Ok h) same = absurd same
  of_failure (Err failed) (Err e) same = same

  -- both hold their map under one name, or none holds it
  pub of_names : (name : There → GName) (γ : GName) (there : Result There Failed) (here : Result Here Error) → IsMadeOf inner out there here → IfOk there (λ p. name p ≡ γ)
      → name_if_ok (λ (_ : There). γ) there ≡ name_if_ok (λ h. name (inner h)) here
  of_names name γ (Ok p) (Ok h) same known = ap some (sym (subst (λ q. name q ≡ γ) (sym same) known))
  of_names name γ (Ok p) (Err e) same known = absurd same
  of_names name γ (Err failed) (Ok h) same known = absurd same
  of_names name γ (Err failed) (Err e) same known = refl
