-- What walks by hand share that hand on what another call lends. Assumes `Logic`.
-- for the proofs by hand of wasmi_ordered and wasmi_hashed
--     ok_of      a result that is there is made of what it holds
--     sole      what has one machine type is one machine value
--     lent_there      a reference that is there.        lent_on      the same of a call that may have failed, and then left the part as it was
--     each_ok      what is known of a value that is there
pub use Rattle.core.proofs.once.Made.{ok_of}
use Rattle.wasmi_arena.proofs.Steps.{ent, sep, id⊢, GName, follows, RattleType, T, Ty, Val, has_ty, WT, Ura, ‵, ◌$◌, ◌∵◌, !, qed, done, keep, move, fpick, use2, rewrite, Logic, sem}
use Rattle.std.proofs.Common.{◌≡◌, refl, subst, MutBor}
use Rattle.std.specs.Prelude.{Result, Ok, Err, IfOk, OnOk, OnErr}
use Rattle.std.specs.Borrow.{RestsIfErr, name_if_ok}
use base.Fml.{fres}
use denote.Follow.{follows_if, follows_by, such_by, followed}
use denote.Laws.{Typed}
use mathlib.Core.List.{List, [], ◌∷◌}
use mathlib.Core.Option.{Option, some}

pub sole : (τ : Ty) (vs : List Val) → Typed (τ ∷ []) vs → (v : Val) × (vs ≡ v ∷ []) × (T (has_ty τ v) × WT v)
sole τ [] t = absurd t
sole τ (v ∷ []) t = (v, refl, t.0)
sole τ (v ∷ w ∷ vs) t = absurd t.1

module _ {M : Type 1} {𝓤 : Ura M} (𝓛 : Logic 𝓤) (R T : RattleType) (γ γ' : GName) (F : T.Denot → R.Denot) (last : R.Denot) where
  pub lent_there : ent 𝓤 (sem 𝓛 (follows R T γ γ' F)) (sem 𝓛 (follows_if R T γ (some γ') F last))
  unfolding follows_by
  lent_there = id⊢ 𝓤 (sem 𝓛 (follows R T γ γ' F))

module _ {M : Type 1} {𝓤 : Ura M} (𝓛 : Logic 𝓤) (R T : RattleType) (F : T.Denot → R.Denot) (γ : GName) (part : MutBor T.Denot) (last : R.Denot)
    {X E : Type 0} (name : X → GName) (P : T.Denot → Type 0) (as_before : (now : T.Denot) → P now → F now ≡ last) where
  -- what a result holds, and how the part was left where it holds nothing
  abbrev Known : Result X E → Type 0
  Known r = (s : (T.Denot → T.Denot) × T.Denot) × ((w : T.Denot) → OnOk r (s.0 w ≡ w)) × OnErr r (P s.1)

  by_cases : (r : Result X E) → ent 𝓤 (sep 𝓤 (sem 𝓛 (follows R T γ part.ghost_name F)) (sem 𝓛 (RestsIfErr T part name r P)))
      (sem 𝓛 (follows_if R T γ (name_if_ok (λ (_ : X). part.ghost_name) r) F last))
  unfolding such_by follows_by
  by_cases (Ok x) = qed 𝓛 (‵ (follows R T γ part.ghost_name F) ∷ ‵ (RestsIfErr T part name {E = E} (Ok x) P) ∷ []) ∵ keep ! (0 ∷ []) $ done !
  by_cases (Err e) =
      qed 𝓛 (‵ (follows R T γ part.ghost_name F) ∷ ‵ (RestsIfErr T part name (Err e) P) ∷ []) ∵ move ! (1 ∷ []) $
      fpick ! (λ (s : Known (Err e)). move ! (1 ∷ 0 ∷ []) $ use2 𝓛 (‵ (fres γ (R.coded.code (F s.0.1)))) (followed 𝓛 R T F γ part.ghost_name s.0.1) $
      rewrite ! 0 (λ (w : R.Denot). ‵ (fres γ (R.coded.code w))) (as_before s.0.1 s.2) refl $ done !)

  -- m is the name under which what is made of the result holds the part
  pub lent_on : (r : Result X E) (m : Option GName) → name_if_ok (λ (_ : X). part.ghost_name) r ≡ m
      → ent 𝓤 (sep 𝓤 (sem 𝓛 (follows R T γ part.ghost_name F)) (sem 𝓛 (RestsIfErr T part name r P))) (sem 𝓛 (follows_if R T γ m F last))
  lent_on r m same = subst (λ (n : Option GName). ent 𝓤 (sep 𝓤 (sem 𝓛 (follows R T γ part.ghost_name F)) (sem 𝓛 (RestsIfErr T part name r P)))
      (sem 𝓛 (follows_if R T γ n F last))) same (by_cases r)

pub each_ok : {X E : Type 0} {P Q : X → Type 0} (r : Result X E) → IfOk r P → ((x : X) → P x → Q x) → IfOk r Q
each_ok (Ok x) known then = then x known
each_ok (Err e) known then = tt
