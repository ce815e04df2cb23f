-- A call on what another call makes of its first parameter: `self.into_inner().call(..)`. Assumes `Logic`.
-- for the proofs by hand of wasmi_ordered and wasmi_hashed
--     EntryRow      an entry's row and laws.        spent      nothing is left of it
--     hands      the walk where the second call's answer is the function's.        answers, takes      how it ends, and where the entry is used up
--     lends, lends_with, lends_bare      the walk where it is a reference, put into `Ok`;  with a second parameter, which the second call takes;  with no `Ok`
--     calls_on, also      a call;  a clause that holds by itself
use Rattle.wasmi_arena.proofs.Steps.{Fml, GName, Lft, ftrue, fsep, SProp, ent, sep, ex, emp, id⊢, guard, Lfts, fact, no, follows, Is, shows, layout, Laws, RattleType, MutRef, NamedLft, mut_Tells, plain, nothing, heard, peeks, only, stay_dropped, Ty, named, Val, vptr, of_list, Ura, alloc_all, pass_all, free_all, look_at, get, sets, lands_as, Step, prop, Item, ‵, raw, ◌⊛◌, some, later, given, at_ret, ◌$◌, ◌∵◌, !, qed, done, by, move, drop, join, split, fsplit, fjoin, use0, use1, use2, keep, pick, learn, await, updating, now, rewrite, group, Logic, sem, live, agg, of_opd, and_then, no_more, lit, returns}
use Rattle.std.proofs.Common.{◌≡◌, Ok, refl, sym, ap, subst, MutBor}
use Rattle.std.specs.Prelude.{IsOk}
use Rattle.std.specs.contracts.result.Result as ResultType
use Rattle.wasmi_arena.specs.declared.error.ArenaError.{ArenaError}
use Rattle.wasmi_arena.specs.contracts.error.ArenaError as ErrorType
use Rattle.wasmi_arena.proofs.Frame.{let_go, gone}
use Prim.Native.Nat.{ℕ}
use base.Logic.{emp∗, via, guard_i, snd∗, mono_l, mono_r}
use contract.Monad.{fact_i, fact_use, top}
use denote.Exit.{Last, left}
use denote.Follow.{follows_if}
use denote.Triple.Call.{calls_from}
use denote.Triple.Walked.{Goes}
use mathlib.Core.List.{List, [], ◌∷◌}
use mathlib.Core.Option.{some as name}
use mir.Syntax.{Callee, Home, Body, Opd, local, seq, assign, call, return, Place, place, copy, Rv, rv_opd, aggregate, int, w8}
use prog.Wp.{Calls, Loops, Env}
use sound.WpLaws.{FmC}
use types.Kit.{Seq, step, mean, Post, lands, allocs, params', runs}
use types.Run.{Opds}
use Rattle.wasmi_map_specs.proofs.Handed.{ok_of, lent_there}
use Rattle.wasmi_map_specs.proofs.Words.{Good, Within, typed_of, facts, apart}

-- nothing is left of a value that is handed on
abbrev pub LeavesNone : (NamedLft → RattleType) → Type 2
LeavesNone Row = (M : Type 1) (𝓤 : Ura M) (𝓛 : Logic 𝓤) (ℓ : NamedLft) (x : (Row ℓ).Denot) (f : Last ((Row ℓ).exit no) x) → ent 𝓤 (emp 𝓤) (sem 𝓛 (left ((Row ℓ).exit no) x f))

-- The entry of a key: a row, of which nothing is left once it is used up, the standard library's row, the one made of the other, and what the map is that it lies in.
pub record EntryRow : Type 2 where
  pub Here : NamedLft → RattleType
  pub There : NamedLft → RattleType
  pub here_laws : (ℓ : NamedLft) → Laws (Here ℓ)
  pub there_laws : (ℓ : NamedLft) → Laws (There ℓ)
  pub leaves_none : LeavesNone Here
  pub inner : (ℓ : NamedLft) → (Here ℓ).Denot → (There ℓ).Denot
  pub Map : RattleType
  pub Value : RattleType
  pub name_of : (ℓ : NamedLft) → (There ℓ).Denot → GName
  pub map_of : (ℓ : NamedLft) → (There ℓ).Denot → Map.Denot
  pub map_with : (ℓ : NamedLft) → (There ℓ).Denot → Value.Denot → Map.Denot

-- a reference's machine value
abbrev pub IsPtr : Val → Type 0
IsPtr u = (at : ℕ × ℕ) × (u ≡ vptr at.0 at.1)

pub told : (κ : Lft) (V : RattleType) (t : MutBor V.Denot) (u : Val) → Is (MutRef (named 0) κ V) t (u ∷ []) → IsPtr u
told κ V t u is = ((t.ref_ptr.0, t.ref_ptr.1), ap only (mut_Tells (named 0) κ V t (u ∷ []) is))

-- `Ok` of it, and how the code makes that of what lies at p
abbrev pub ok_val : Val → Val
ok_val u = live 0 (of_list (u ∷ []))

abbrev rv_ok : Place → Rv
rv_ok p = aggregate (int w8 0 ∷ copy p ∷ [])

-- a clause that holds by itself
pub also : {M : Type 1} {𝓤 : Ura M} {𝓛 : Logic 𝓤} {K : Type 0} {Γ : List (Item 𝓤)} → K → {φ : Type 0} {P : SProp 𝓤} → φ → Step K 𝓛 Γ (prop P) Γ (prop (sep 𝓤 (fact 𝓤 φ) P))
also {𝓤 = 𝓤} t {φ} {P} x = step (λ s. record { prf = via 𝓤 P s.prf (via 𝓤 (sep 𝓤 (emp 𝓤) P) (emp∗ 𝓤 P) (mono_l 𝓤 P (fact_i 𝓤 φ (emp 𝓤) x))) })

module _ {M : Type 1} {𝓤 : Ura M} (𝓛 : Logic 𝓤) where
  open 𝓛 use {H}

  pub spent : (P : EntryRow) (n : ℕ) (at : Lfts n → NamedLft) → Goes 𝓛 n (plain (λ κs. P.Here (at κs))) no (stay_dropped (plain (λ κs. P.Here (at κs))) no)
  spent P n at κs x f vs fit = let none = left ((P.Here (at κs)).exit no) x f in via 𝓤 (emp 𝓤) (top 𝓤 _) (via 𝓤 (sem 𝓛 none) (P.leaves_none M 𝓤 𝓛 (at κs) x f) (𝓛.laws.⇛_intro (sem 𝓛 none)))

  module _ (alive : SProp 𝓤) (R : RattleType) where
    -- the tokens, what the first parameter and the others own, and the facts
    abbrev pub Entered : SProp 𝓤 → Fml → R.Denot → List Val → SProp 𝓤
    Entered req others x us = sep 𝓤 (sep 𝓤 alive (sem 𝓛 (fsep (R.own_val x us) others))) req

    -- a call's answer, with what is said of it
    abbrev pub Answered : {W : Type 0} → (R.Denot → W → SProp 𝓤) → Val → SProp 𝓤
    Answered {W} E v = H.⇛ (ex 𝓤 (λ (r : R.Denot). sep 𝓤 (sep 𝓤 alive (sem 𝓛 (R.own_val r (v ∷ [])))) (ex 𝓤 (λ (ws : W). E r ws))))

  -- the call rule where the caller keeps the facts, and has the answer with what is said of it
  module _ {K : Type 0} {Γ : List (Item 𝓤)} {C : Calls 𝓤 H} {Λ : Loops 𝓤 H} {env : Env 𝓤 H} {d : Place} {more : Body} {q : Post 𝓤 H} {f : Callee} {xs : List Opd} where
    pub calls_on : K → FmC 𝓤 H 𝓛.laws C → {alive req : SProp 𝓤} → ent 𝓤 req (sep 𝓤 req req) → (R R' : RattleType) (others : Fml) (x : R.Denot) (us vs : List Val) {W : Type 0} (E : R'.Denot → W → Item 𝓤)
        → ent 𝓤 (Entered alive R req others x us) (C f vs (Answered alive R' (λ r ws. mean 𝓛 (E r ws)))) → Opds K 𝓛 (raw (Entered alive R req others x us) ∷ raw req ∷ Γ) env xs vs
        → ((v : Val) (r : R'.Denot) (ws : W) → Is R' r (v ∷ []) → Seq K 𝓛 (E r ws ∷ ‵ (R'.own_val r (v ∷ [])) ∷ raw alive ∷ raw req ∷ Γ) (lands C Λ env d v more q))
        → Seq K 𝓛 (raw alive ∷ ‵ (R.own_val x us) ∷ ‵ others ∷ raw req ∷ Γ) (runs C Λ env (seq (call f xs d) more) q)
    calls_on t fm {alive} {req} twice R R' others x us vs {W} E met reads then =
        let P = Entered alive R req others x us in
        move t (1 ∷ 2 ∷ []) $ fjoin t $ move t (1 ∷ 0 ∷ []) $ join t $ move t (1 ∷ []) $ use1 𝓛 (raw req ⊛ raw req) twice $ split t $ move t (2 ∷ 0 ∷ []) $ use2 𝓛 (raw P) (id⊢ 𝓤 P) $
        calls_from t fm (raw P) vs (Answered alive R' (λ r ws. mean 𝓛 (E r ws))) met reads (λ v.
        use1 𝓛 (later (some (λ (r : R'.Denot). (raw alive ⊛ ‵ (R'.own_val r (v ∷ []))) ⊛ some (λ (ws : W). E r ws)))) (id⊢ 𝓤 _) $ await t tt $ pick t (λ r. split t $ split t $
        move t (2 ∷ []) $ pick t (λ ws. move t (2 ∷ []) $ peeks t R' _ (shows 𝓛 R') r (v ∷ []) (λ is. move t (1 ∷ []) $ then v r ws is))))

  module _ (alive : SProp 𝓤) (n : ℕ) where
    pub answers : (R : RattleType) {W : Type 0} (E : R.Denot → W → SProp 𝓤) (Z : R.Denot → SProp 𝓤) → ((r : R.Denot) (ws : W) → ent 𝓤 (E r ws) (Z r))
        → (u : Val) {φ : Type 0} → ((r : R.Denot) → Is R r (u ∷ []) → φ) → {P : SProp 𝓤}
        → ((r : R.Denot) → ent 𝓤 (sep 𝓤 alive (sep 𝓤 (sem 𝓛 (let_go n)) (sep 𝓤 (sem 𝓛 (R.own_val r (u ∷ []))) (Z r)))) P)
        → ent 𝓤 (Answered alive R E u) (H.⇛ (sep 𝓤 (fact 𝓤 φ) P))
    answers R {W} E Z turn u {φ} typed {P} leave =
        qed 𝓛 (later (some (λ (r : R.Denot). (raw alive ⊛ ‵ (R.own_val r (u ∷ []))) ⊛ some (λ (ws : W). raw (E r ws)))) ∷ []) ∵ updating ! $ await ! tt $ pick ! (λ r. split ! $ split ! $
        move ! (2 ∷ []) $ pick ! (λ ws. use1 𝓛 (raw (Z r)) (turn r ws) $ move ! (2 ∷ []) $ peeks ! R _ (shows 𝓛 R) r (u ∷ []) (λ is. use0 𝓛 (‵ (let_go n)) (gone 𝓛 n) $
        -- [what is left of the parameters; the answer; what is said; the tokens]
        move ! (3 ∷ 0 ∷ 1 ∷ 2 ∷ []) $ group ! 4 $ use1 𝓛 (raw P) (leave r) $ use0 𝓛 (raw (fact 𝓤 φ)) (fact_i 𝓤 φ (emp 𝓤) (typed r is)) $ now ! $ done !)))

    -- of a call that uses the entry up: its last value says Q of the map
    pub takes : (R : RattleType) {W : Type 0} (said : W → Fml) (φs : R.Denot → List (Type 0)) (φ : R.Denot → Type 0) (ψ : W → Type 0) (Q : Fml) → ((ws : W) → ψ ws → ent 𝓤 (sem 𝓛 (said ws)) (sem 𝓛 Q))
        → (u : Val) {χ : Type 0} → ((r : R.Denot) → Is R r (u ∷ []) → χ) → {P : SProp 𝓤}
        → ((r : R.Denot) → ent 𝓤 (sep 𝓤 alive (sep 𝓤 (sem 𝓛 (let_go n)) (sep 𝓤 (sem 𝓛 (R.own_val r (u ∷ []))) (sep 𝓤 (sem 𝓛 Q) (facts 𝓤 (φs r) (fact 𝓤 (φ r))))))) P)
        → ent 𝓤 (Answered alive R (λ r ws. sep 𝓤 (sem 𝓛 (fsep (said ws) ftrue)) (facts 𝓤 (φs r) (sep 𝓤 (fact 𝓤 (φ r)) (fact 𝓤 (ψ ws))))) u) (H.⇛ (sep 𝓤 (fact 𝓤 χ) P))
    takes R said φs φ ψ Q go u typed leave =
        answers R (λ r ws. sep 𝓤 (sem 𝓛 (fsep (said ws) ftrue)) (facts 𝓤 (φs r) (sep 𝓤 (fact 𝓤 (φ r)) (fact 𝓤 (ψ ws))))) (λ r. sep 𝓤 (sem 𝓛 Q) (facts 𝓤 (φs r) (fact 𝓤 (φ r)))) (λ r ws.
        qed 𝓛 (‵ (fsep (said ws) ftrue) ∷ raw (facts 𝓤 (φs r) (sep 𝓤 (fact 𝓤 (φ r)) (fact 𝓤 (ψ ws)))) ∷ []) ∵ fsplit ! $ move ! (2 ∷ []) $ use1 𝓛 (raw (facts 𝓤 (φs r) (fact 𝓤 (φ r))) ⊛ raw (fact 𝓤 (ψ ws))) (apart 𝓤 (φs r) (fact 𝓤 (φ r)) (fact 𝓤 (ψ ws))) $
        split ! $ move ! (1 ∷ []) $ heard ! _ (λ is. move ! (1 ∷ []) $ use1 𝓛 (‵ Q) (go ws is) $ keep ! (0 ∷ 1 ∷ []) $ done !)) u typed leave

  module _ (C : Calls 𝓤 H) (fm : FmC 𝓤 H 𝓛.laws C) (Λ : Loops 𝓤 H) (P : EntryRow) (ℓ : NamedLft) (x : (P.Here ℓ).Denot) (b : Val) where
    abbrev Here : RattleType
    Here = P.Here ℓ

    abbrev There : RattleType
    There = P.There ℓ

    abbrev y : There.Denot
    y = P.inner ℓ x

    -- the first call makes of x what the standard library has of it
    module _ {f : Callee} {alive alive₁ req req₁ : SProp 𝓤} (within : Within 𝓤 alive alive₁ req req₁) {W₁ : Type 0} (L₁ : W₁ → Fml)
        (makes : ent 𝓤 (Entered alive₁ Here req₁ ftrue x (b ∷ [])) (C f (b ∷ []) (Answered alive₁ There {W = W₁} (λ r ws. sep 𝓤 (sem 𝓛 (L₁ ws)) (fact 𝓤 (r ≡ y)))))) (others : Fml) where
      abbrev Before : SProp 𝓤
      Before = Entered alive Here req others x (b ∷ [])

      abbrev After : Val → SProp 𝓤
      After v = Entered alive There req others y (v ∷ [])

      abbrev Made : Val → SProp 𝓤
      Made = Answered alive₁ There {W = W₁} (λ r ws. sep 𝓤 (sem 𝓛 (L₁ ws)) (fact 𝓤 (r ≡ y)))

      abbrev Spare : SProp 𝓤
      Spare = sep 𝓤 within.spare (sep 𝓤 (sem 𝓛 others) req)

      starts : ent 𝓤 Before (sep 𝓤 (C f (b ∷ []) Made) Spare)
      starts =
          qed 𝓛 (((raw alive ⊛ ‵ (Here.own_val x (b ∷ [])) ⊛ ‵ others) ⊛ raw req) ∷ []) ∵ split ! $ split ! $ use1 𝓛 (raw alive₁ ⊛ raw within.spare) within.parts $ split ! $
          move ! (2 ∷ []) $ split ! $ move ! (4 ∷ []) $ use1 𝓛 (raw req₁ ⊛ raw req) within.knows $ split ! $
          -- [the call's facts; the facts; the first parameter; the others; the call's tokens; the spare ones]
          nothing ! $ move ! (3 ∷ 0 ∷ []) $ join ! $ move ! (4 ∷ 0 ∷ []) $ join ! $ join ! $ use1 𝓛 (raw (C f (b ∷ []) Made)) makes $ move ! (0 ∷ 3 ∷ 2 ∷ 1 ∷ []) $ done !

      turned : (v : Val) → ent 𝓤 (sep 𝓤 (Made v) Spare) (H.⇛ (After v))
      turned v =
          qed 𝓛 (later (some (λ (r : There.Denot). (raw alive₁ ⊛ ‵ (There.own_val r (v ∷ []))) ⊛ some (λ (ws : W₁). ‵ (L₁ ws) ⊛ raw (fact 𝓤 (r ≡ y))))) ∷ raw within.spare ∷ ‵ others ∷ raw req ∷ []) ∵
          updating ! $ await ! tt $ pick ! (λ r. split ! $ split ! $ move ! (2 ∷ []) $ pick ! (λ ws. split ! $ drop ! $ heard ! _ (λ same.
          -- [the tokens; the entry; the spare tokens; the others; the facts]
          rewrite ! 1 (λ (z : There.Denot). ‵ (There.own_val z (v ∷ []))) same refl $
          move ! (0 ∷ 2 ∷ []) $ use2 𝓛 (raw alive) within.whole $ move ! (1 ∷ 2 ∷ []) $ join ! $ move ! (1 ∷ 0 ∷ []) $ join ! $ join ! $ now ! $ done !)))

      first : ent 𝓤 Before (C f (b ∷ []) (λ v. H.⇛ (After v)))
      first = via 𝓤 (sep 𝓤 (C f (b ∷ []) Made) Spare) starts (fm f (b ∷ []) Made (λ v. H.⇛ (After v)) Spare turned)

      abbrev Fits : Val → Type 0
      Fits = Good (layout There)

      fits : (v : Val) → ent 𝓤 (H.⇛ (After v)) (H.⇛ (guard 𝓤 (Fits v) (After v)))
      fits v = 𝓛.laws.⇛_mono (After v) (guard 𝓤 (Fits v) (After v)) (fact_use 𝓤 (Fits v)
          (qed 𝓛 (((raw alive ⊛ ‵ (There.own_val y (v ∷ [])) ⊛ ‵ others) ⊛ raw req) ∷ []) ∵ split ! $ split ! $ move ! (1 ∷ []) $ split ! $
          peeks ! There _ (shows 𝓛 There) y (v ∷ []) (λ is. by ! (fact_i 𝓤 _ _ (typed_of 𝓛 (P.there_laws ℓ) y (v ∷ []) is).0)))
          (λ ok. guard_i 𝓤 (Fits v) (After v) ok))

      module _ {K : Type 0} {g : Callee} {τ₀ τ₁ τ₂ τ₃ : Ty} {h₀ h₁ h₂ h₃ : Home} {Kf : Val → SProp 𝓤} where
        pub hands : K → Good τ₁ b → Good τ₃ b → ((v : Val) → Fits v → Good τ₂ v) → {Q : Val → Val → SProp 𝓤} → ((v : Val) → ent 𝓤 (After v) (C g (v ∷ []) (Q v)))
            → (φ : Val → Type 0) → ((u : Val) → φ u → Good τ₀ u) → ((v u : Val) → ent 𝓤 (Q v u) (H.⇛ (sep 𝓤 (fact 𝓤 (φ u)) (Kf u))))
            → Seq K 𝓛 (raw Before ∷ []) (allocs (local τ₀ h₀ ∷ local τ₁ h₁ ∷ local τ₂ h₂ ∷ local τ₃ h₃ ∷ []) (λ E. params' E (b ∷ []) (runs C Λ E
            (seq (assign (place 3 []) (rv_opd (copy (place 1 [])))) (seq (call f (copy (place 3 []) ∷ []) (place 2 [])) (seq (call g (copy (place 2 []) ∷ []) (place 0 [])) return))) (at_ret E Kf))))
        hands t good₁ good₃ good₂ {Q} second φ typed ends =
            alloc_all t (λ l. pass_all t refl (good₁, tt) $ sets t (of_opd t (get t refl)) refl good₃ $
            calls_from t fm (raw Before) (b ∷ []) (λ v. H.⇛ (After v)) first (and_then t (get t refl) (no_more t)) (λ v.
            use1 𝓛 (later (given (Fits v) (raw (After v)))) (fits v) $ await t tt $ learn t (λ ok. lands_as t refl refl (good₂ v ok) $
            calls_from t fm (raw (After v)) (v ∷ []) (Q v) (second v) (and_then t (get t refl) (no_more t)) (λ u.
            use1 𝓛 (later (raw (fact 𝓤 (φ u)) ⊛ raw (Kf u))) (ends v u) $ await t tt $ split t $ heard t _ (λ fine. lands_as t refl refl (typed u fine) $
            returns t (look_at t 0 refl) $ free_all t refl $ done t)))))

      module _ (n : ℕ) (κ : Lft) (φ : MutBor P.Value.Denot → Type 0) {W : Type 0} (L : W → Fml) where
        abbrev Value : RattleType
        Value = MutRef (named 0) κ P.Value

        -- what the second call lends
        abbrev Goes_on : MutBor P.Value.Denot → SProp 𝓤
        Goes_on t = sep 𝓤 (sem 𝓛 (follows P.Map P.Value (P.name_of ℓ y) t.ghost_name (P.map_with ℓ y))) (fact 𝓤 (φ t))

        abbrev Lends : Val → SProp 𝓤
        Lends = Answered alive Value {W = W} (λ t ws. sep 𝓤 (sem 𝓛 (L ws)) (Goes_on t))

        -- the same in an `Ok`
        abbrev Goes_out : MutBor P.Value.Denot → SProp 𝓤
        Goes_out t = sep 𝓤 (sem 𝓛 (follows_if P.Map P.Value (P.name_of ℓ y) (name t.ghost_name) (P.map_with ℓ y) (P.map_of ℓ y))) (sep 𝓤 (fact 𝓤 (φ t)) (fact 𝓤 (IsOk {E = ArenaError} (Ok t))))

        goes_out : (t : MutBor P.Value.Denot) (ws : W) → ent 𝓤 (sep 𝓤 (sem 𝓛 (L ws)) (Goes_on t)) (Goes_out t)
        goes_out t ws =
            qed 𝓛 ((‵ (L ws) ⊛ ‵ (follows P.Map P.Value (P.name_of ℓ y) t.ghost_name (P.map_with ℓ y)) ⊛ raw (fact 𝓤 (φ t))) ∷ []) ∵ split ! $ drop ! $ split ! $
            use1 𝓛 (‵ (follows_if P.Map P.Value (P.name_of ℓ y) (name t.ghost_name) (P.map_with ℓ y) (P.map_of ℓ y))) (lent_there 𝓛 P.Map P.Value (P.name_of ℓ y) t.ghost_name (P.map_with ℓ y) (P.map_of ℓ y)) $
            use0 𝓛 (raw (fact 𝓤 (IsOk {E = ArenaError} (Ok t)))) (fact_i 𝓤 _ (emp 𝓤) refl) $ move ! (1 ∷ 2 ∷ 0 ∷ []) $ done !

        abbrev Leaves : (Val → SProp 𝓤) → Type 1
        Leaves Kf = (u : Val) (t : MutBor P.Value.Denot) → ent 𝓤 (sep 𝓤 alive (sep 𝓤 (sem 𝓛 (let_go n)) (sep 𝓤 (sem 𝓛 ((ResultType.the_row Value ErrorType.the_row).own_val (Ok t) (ok_val u ∷ []))) (Goes_out t)))) (Kf (ok_val u))

        ends_so : (Kf : Val → SProp 𝓤) → Leaves Kf → (u : Val) → ent 𝓤 (Lends u) (H.⇛ (sep 𝓤 (fact 𝓤 (IsPtr u)) (Kf (ok_val u))))
        ends_so Kf leave u = answers alive n Value (λ t ws. sep 𝓤 (sem 𝓛 (L ws)) (Goes_on t)) Goes_out goes_out u (λ t is. told κ P.Value t u is)
            (λ t. via 𝓤 _ (mono_r 𝓤 alive (mono_r 𝓤 (sem 𝓛 (let_go n)) (mono_l 𝓤 (Goes_out t) (ok_of 𝓛 Value ErrorType.the_row t u)))) (leave u t))

        module _ {K : Type 0} {g : Callee} {τ₀ τ₁ τ₂ τ₃ : Ty} {h₀ h₁ h₂ h₃ : Home} {Kf : Val → SProp 𝓤} where
          -- of one parameter, with no `Ok`
          pub lends_bare : K → Good τ₁ b → Good τ₃ b → ((v : Val) → Fits v → Good τ₂ v) → ((k o : ℕ) → Good τ₀ (vptr k o)) → ((v : Val) → ent 𝓤 (After v) (C g (v ∷ []) Lends))
              → ((u : Val) (t : MutBor P.Value.Denot) → ent 𝓤 (sep 𝓤 alive (sep 𝓤 (sem 𝓛 (let_go n)) (sep 𝓤 (sem 𝓛 ((Value).own_val t (u ∷ []))) (Goes_on t)))) (Kf u))
              → Seq K 𝓛 (raw Before ∷ []) (allocs (local τ₀ h₀ ∷ local τ₁ h₁ ∷ local τ₂ h₂ ∷ local τ₃ h₃ ∷ []) (λ E. params' E (b ∷ []) (runs C Λ E
              (seq (assign (place 3 []) (rv_opd (copy (place 1 [])))) (seq (call f (copy (place 3 []) ∷ []) (place 2 [])) (seq (call g (copy (place 2 []) ∷ []) (place 0 [])) return))) (at_ret E Kf))))
          lends_bare t good₁ good₃ good₂ typed second leave = hands t good₁ good₃ good₂ {Q = λ v. Lends} second IsPtr (λ u at. subst (Good τ₀) (sym at.1) (typed at.0.0 at.0.1))
              (λ v u. answers alive n Value (λ r ws. sep 𝓤 (sem 𝓛 (L ws)) (Goes_on r)) Goes_on (λ r ws. snd∗ 𝓤 (sem 𝓛 (L ws)) (Goes_on r)) u (λ r is. told κ P.Value r u is) (leave u))

        module _ {K : Type 0} {g : Callee} {τ₀ τ₁ τ₂ τ₃ τ₄ : Ty} {h₀ h₁ h₂ h₃ h₄ : Home} {Kf : Val → SProp 𝓤} where
          -- of one parameter
          pub lends : K → Good τ₁ b → Good τ₄ b → ((v : Val) → Fits v → Good τ₃ v) → ((k o : ℕ) → Good τ₂ (vptr k o) × Good τ₀ (ok_val (vptr k o)))
              → ((v : Val) → ent 𝓤 (After v) (C g (v ∷ []) Lends)) → Leaves Kf
              → Seq K 𝓛 (raw Before ∷ []) (allocs (local τ₀ h₀ ∷ local τ₁ h₁ ∷ local τ₂ h₂ ∷ local τ₃ h₃ ∷ local τ₄ h₄ ∷ []) (λ E. params' E (b ∷ []) (runs C Λ E
              (seq (assign (place 4 []) (rv_opd (copy (place 1 [])))) (seq (call f (copy (place 4 []) ∷ []) (place 3 [])) (seq (call g (copy (place 3 []) ∷ []) (place 2 []))
              (seq (assign (place 0 []) (rv_ok (place 2 []))) return)))) (at_ret E Kf))))
          lends t good₁ good₄ good₃ typed second leave =
              alloc_all t (λ l. pass_all t refl (good₁, tt) $ sets t (of_opd t (get t refl)) refl good₄ $
              calls_from t fm (raw Before) (b ∷ []) (λ v. H.⇛ (After v)) first (and_then t (get t refl) (no_more t)) (λ v.
              use1 𝓛 (later (given (Fits v) (raw (After v)))) (fits v) $ await t tt $ learn t (λ ok. lands_as t refl refl (good₃ v ok) $
              calls_from t fm (raw (After v)) (v ∷ []) Lends (second v) (and_then t (get t refl) (no_more t)) (λ u.
              use1 𝓛 (later (raw (fact 𝓤 (IsPtr u)) ⊛ raw (Kf (ok_val u)))) (ends_so Kf leave u) $ await t tt $ split t $ heard t _ (λ at.
              let both = subst (λ z. Good τ₂ z × Good τ₀ (ok_val z)) (sym at.1) (typed at.0.0 at.0.1) in lands_as t refl refl both.0 $
              sets t (agg t (and_then t (lit t tt) (and_then t (get t refl) (no_more t)))) refl both.1 $ returns t (look_at t 0 refl) $ free_all t refl $ done t)))))

          -- of two
          module _ {τ₅ τ₆ : Ty} {h₅ h₆ : Home} {d : Val} where
            pub lends_with : K → Good τ₁ b → Good τ₅ b → Good τ₂ d → Good τ₆ d → ((v : Val) → Fits v → Good τ₄ v) → ((k o : ℕ) → Good τ₃ (vptr k o) × Good τ₀ (ok_val (vptr k o)))
                → ((v : Val) → ent 𝓤 (After v) (C g (v ∷ d ∷ []) Lends)) → Leaves Kf
                → Seq K 𝓛 (raw Before ∷ []) (allocs (local τ₀ h₀ ∷ local τ₁ h₁ ∷ local τ₂ h₂ ∷ local τ₃ h₃ ∷ local τ₄ h₄ ∷ local τ₅ h₅ ∷ local τ₆ h₆ ∷ []) (λ E. params' E (b ∷ d ∷ []) (runs C Λ E
                (seq (assign (place 5 []) (rv_opd (copy (place 1 [])))) (seq (call f (copy (place 5 []) ∷ []) (place 4 [])) (seq (assign (place 6 []) (rv_opd (copy (place 2 []))))
                (seq (call g (copy (place 4 []) ∷ copy (place 6 []) ∷ []) (place 3 [])) (seq (assign (place 0 []) (rv_ok (place 3 []))) return))))) (at_ret E Kf))))
            lends_with t good₁ good₅ good₂ good₆ good₄ typed second leave =
                alloc_all t (λ l. pass_all t refl (good₁, (good₂, tt)) $ sets t (of_opd t (get t refl)) refl good₅ $
                calls_from t fm (raw Before) (b ∷ []) (λ v. H.⇛ (After v)) first (and_then t (get t refl) (no_more t)) (λ v.
                use1 𝓛 (later (given (Fits v) (raw (After v)))) (fits v) $ await t tt $ learn t (λ ok. lands_as t refl refl (good₄ v ok) $
                sets t (of_opd t (get t refl)) refl good₆ $
                calls_from t fm (raw (After v)) (v ∷ d ∷ []) Lends (second v) (and_then t (get t refl) (and_then t (get t refl) (no_more t))) (λ u.
                use1 𝓛 (later (raw (fact 𝓤 (IsPtr u)) ⊛ raw (Kf (ok_val u)))) (ends_so Kf leave u) $ await t tt $ split t $ heard t _ (λ at.
                let both = subst (λ z. Good τ₃ z × Good τ₀ (ok_val z)) (sym at.1) (typed at.0.0 at.0.1) in lands_as t refl refl both.0 $
                sets t (agg t (and_then t (lit t tt) (and_then t (get t refl) (no_more t)))) refl both.1 $ returns t (look_at t 0 refl) $ free_all t refl $ done t)))))
