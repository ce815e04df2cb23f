-- How a lender ends of which a part was lent, and two of that part. Assumes `Logic`.
use Rattle.wasmi_arena.proofs.Steps.{Ura, GName, fsep, ent, sep, wand, id⊢, after₂, ‵, ◌$◌, ◌∵◌, !, qed, by, move, use2, each, assume, Logic, sem, follows, follows_both, mem, RattleType, Array}
use base.Fml.{fres}
use types.Follow.{followed₂}
use denote.Follow.{followed, both_by}
use mathlib.Core.List.{List, [], ◌∷◌}
use Rattle.core.proofs.alloc.Calls.{Al}
use Rattle.core.proofs.mem.Param.{El, R}
use Rattle.core.proofs.slots.Leases.{P}
use Rattle.core.specs.declared.option.Option.{Option}
use Rattle.wasmi_arena.specs.Bucket.{Bucket}
use Rattle.wasmi_arena.specs.inner.Loan.{SameBuckets}

module _ {M : Type 1} {𝓤 : Ura M} (𝓛 : Logic 𝓤) (R S T U : RattleType) (F : S.Denot → R.Denot) (G : T.Denot → U.Denot → S.Denot) (γ δ γ₁ γ₂ : GName) where
  open 𝓛 use {A}

  pub follows_both_then : ent 𝓤 (sep 𝓤 (sem 𝓛 (follows R S γ δ F)) (sem 𝓛 (follows_both S T U δ γ₁ γ₂ G))) (sem 𝓛 (follows_both R T U γ γ₁ γ₂ (λ x y. F (G x y))))
  unfolding both_by
  follows_both_then =
      qed 𝓛 (‵ (follows R S γ δ F) ∷ ‵ (follows_both S T U δ γ₁ γ₂ G) ∷ []) ∵
      each ! (λ (w : T.Denot × U.Denot). wand 𝓤 (sep 𝓤 (A.res γ₁ (T.coded.code w.0)) (A.res γ₂ (U.coded.code w.1))) (A.res γ (R.coded.code (F (G w.0 w.1))))) (λ w.
      assume ! (‵ (fsep (fres γ₁ (T.coded.code w.0)) (fres γ₂ (U.coded.code w.1)))) $ move ! (0 ∷ 2 ∷ []) $
      use2 𝓛 (‵ (fres δ (S.coded.code (G w.0 w.1)))) (followed₂ 𝓛 (mem S) (mem T) (mem U) G δ γ₁ γ₂ w.0 w.1) $ move ! (1 ∷ 0 ∷ []) $ by ! (followed 𝓛 R S F γ δ (G w.0 w.1)))

-- the items of a run of buckets, of which two were lent
module _ (E : El) (Z : Al) {M : Type 1} {𝓤 : Ura M} (𝓛 : Logic 𝓤) (buckets : List (Option (Bucket E.row.Denot))) (F : E.row.Denot → E.row.Denot → List E.row.Denot) (γ γ₁ γ₂ : GName) where
  pub both_follow : ent 𝓤 (sem 𝓛 (after₂ (SameBuckets (R E) (P E Z) Z.g buckets) (mem (R E)) (mem (R E)) γ γ₁ γ₂ F)) (sem 𝓛 (follows_both (Array (R E) 0) (R E) (R E) γ γ₁ γ₂ F))
  unfolding both_by
  both_follow = id⊢ 𝓤 _
