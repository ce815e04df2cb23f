-- What a map is once the table, lent on to an entry, has come back. Assumes `Logic`.
-- for src/map/entry.rt
use Rattle.wasmi_arena.proofs.Steps.{GName, Fml, ent, sep, Ura, Logic, sem, ‵, ◌$◌, ◌∵◌, !, qed, done, keep, move, fpick, fpack, use2, rewrite, RattleType, follows}
use Rattle.std.proofs.Common.{◌≡◌, refl, sym, subst, MutBor}
use base.Fml.{fres}
use mathlib.Core.List.{[], ◌∷◌}
use mathlib.Core.Option.{none, some}
use denote.Follow.{follows_so, follows_by, such_by, followed}
use Rattle.std.specs.Borrow.{name_if_ok, RestsIfErr}
use Rattle.std.specs.HashMap.Entry.{entry_map_ref}
use Rattle.std.specs.Prelude.{Result, Ok, Err, IfOk, OnOk, OnErr}
use Rattle.std.specs.declared.alloc.AllocFailed.{AllocFailed}
use Rattle.std.specs.declared.collections.hash_map.Entry.{Entry as InnerEntry}
use Rattle.std.specs.declared.cmp.PartialEq as eq
use Rattle.std.specs.declared.hash.Hash as hash
use Rattle.std.specs.declared.hash.Hasher as hasher
use Rattle.std.specs.declared.hash.BuildHasher as builder
use Rattle.wasmi_hashed.specs.MapEntry.{inner_entry}
use Rattle.wasmi_hashed.specs.inner.MapEntry.{IsOfInner}
use Rattle.wasmi_arena.specs.declared.error.ArenaError.{ArenaError}
use Rattle.wasmi_hashed.specs.declared.map.entry.Entry.{Entry}

module _ {K V S A H : Type 0} {g : eq.Ghosts K} {h : hash.Ghosts K} {b : builder.Ghosts S H} {w : hasher.Ghosts H} where
  module _ {M : Type 1} {𝓤 : Ura M} (𝓛 : Logic 𝓤) (R T : RattleType) (F : T.Denot → R.Denot) (γ : GName) (part : MutBor T.Denot) (last : R.Denot)
      (P : T.Denot → Type 0) (Q : R.Denot → Type 0) (as_before : (now : T.Denot) → P now → Q (F now)) where
    abbrev Held : Result (InnerEntry K V S A H g h b w) (AllocFailed K) → Type 0
    Held r = (s : (T.Denot → T.Denot) × T.Denot) × ((x : T.Denot) → OnOk r (s.0 x ≡ x)) × OnErr r (P s.1)

    abbrev Kept : Result (Entry K V S A H g h b w) ArenaError → Type 0
    Kept r = (s : (T.Denot → R.Denot) × R.Denot) × ((x : T.Denot) → s.0 x ≡ F x) × OnErr r (Q s.1)

    abbrev Rests : Result (InnerEntry K V S A H g h b w) (AllocFailed K) → Fml
    Rests there = RestsIfErr T part (λ (p : InnerEntry K V S A H g h b w). (entry_map_ref p).ghost_name) there P

    pub lent_on : (there : Result (InnerEntry K V S A H g h b w) (AllocFailed K)) (here : Result (Entry K V S A H g h b w) ArenaError) → IsOfInner there here
        → IfOk there (λ p. (entry_map_ref p).ghost_name ≡ part.ghost_name)
        → ent 𝓤 (sep 𝓤 (sem 𝓛 (follows R T γ part.ghost_name F)) (sem 𝓛 (Rests there)))
        (sem 𝓛 (follows_so R T γ (name_if_ok (λ entry. (entry_map_ref (inner_entry entry)).ghost_name) here) (λ x new. new ≡ F x) (λ new. OnErr here (Q new))))
    unfolding such_by follows_by
    lent_on (Ok p) (Ok entry) same named =
        qed 𝓛 (‵ (follows R T γ part.ghost_name F) ∷ ‵ (Rests (Ok p)) ∷ []) ∵ keep ! (0 ∷ []) $
        rewrite ! 0 (λ (γ' : GName). ‵ (follows R T γ γ' F)) (sym (subst (λ q. (entry_map_ref q).ghost_name ≡ part.ghost_name) (sym same) named)) refl $
        fpack ! (Kept (Ok entry)) (λ s. follows_by R.Denot T.Denot R.coded.code T.coded.code γ (some (entry_map_ref (inner_entry entry)).ghost_name) s.0.0 s.0.1) ((F, last), (λ x. refl), tt) $ done !
    lent_on (Ok p) (Err e) same named = absurd same
    lent_on (Err failed) (Ok entry) same named = absurd same
    lent_on (Err failed) (Err e) same named =
        qed 𝓛 (‵ (follows R T γ part.ghost_name F) ∷ ‵ (Rests (Err failed)) ∷ []) ∵ move ! (1 ∷ []) $
        fpick ! (λ (s : Held (Err failed)). move ! (1 ∷ 0 ∷ []) $ use2 𝓛 (‵ (fres γ (R.coded.code (F s.0.1)))) (followed 𝓛 R T F γ part.ghost_name s.0.1) $
        fpack ! (Kept (Err e)) (λ t. follows_by R.Denot T.Denot R.coded.code T.coded.code γ none t.0.0 t.0.1) ((F, F s.0.1), (λ x. refl), as_before s.0.1 s.2) $ done !)
