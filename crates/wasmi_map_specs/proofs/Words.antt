-- How parameters are stored, and the lifetimes and facts of a call beside those of a call in it. Assumes `Logic`.
-- for the proofs by hand of wasmi_ordered and wasmi_hashed
--     Spelling R      how a value of R is stored: `one_of` a row's laws, in one machine value, or `ref_of` a reference.        Spellings, Words, lists, Fitting      of a list of types
--     proved_by      `proved_at` at those machine values
--     facts φs R      each fact, beside R.        Within      a call's tokens and facts beside those that a call in it is handed: `all_of` them, or `but_last`, all but the last lifetime's and R
use Rattle.wasmi_arena.proofs.Steps.{Lft, SProp, ent, sep, emp, id⊢, Lfts, Shares, fact, tables, Is, layout, Laws, RattleType, Denots, Valss, MutRef, mut_vals, mut_Tells, Stays, walk_of, Ty, Val, has_ty, WT, Ura, Logic}
use Rattle.std.proofs.Common.{◌≡◌, refl, sym, subst}
use Rattle.std.proofs.raw_atomic.Walks.{proved_at}
use Prim.Native.Nat.{ℕ, zero, suc}
use base.Logic.{via, fst∗, snd∗, comm∗, emp∗, assoc∗, assoc', mono∗, mono_l, mono_r}
use contract.Lifetimes.{AllOutlive, toks}
use contract.Monad.{fact_i, fact_use}
use contract.Running.{Running, MachineTables}
use denote.Laws.{Ises, Are, Typed}
use denote.Signature.{Signature, types_at}
use denote.Triple.Clauses.{Ended, Clauses, closing}
use denote.Triple.Entry.{Args}
use denote.Triple.Spec.{Meets}
use denote.Triple.Walked.{AllGo}
use lib.Dec.{T as Holds}
use mathlib.Core.List.{List, [], ◌∷◌}
use mir.Syntax.{Fn, Callee, Lifetime}
use prog.Model.{Model}
use prog.Wp.{WpFn, Closed}
use Rattle.wasmi_map_specs.proofs.Handed.{sole}

abbrev pub Good : Ty → Val → Type 0
Good τ v = Holds (has_ty τ v) × WT v

pub record Spelling (R : RattleType) : Type 1 where
  pub Word : Type 0
  pub list : R.Denot → Word → List Val
  pub Fits : Word → Type 0
  pub told : (x : R.Denot) (vs : List Val) → Is R x vs → (w : Word) × (vs ≡ list x w) × Fits w

-- of a type with one machine type
abbrev pub typed_of : {M : Type 1} {𝓤 : Ura M} (𝓛 : Logic 𝓤) {R : RattleType} → Laws R → (x : R.Denot) (vs : List Val) → Is R x vs → Typed (layout R ∷ []) vs
typed_of 𝓛 laws x vs is = subst (λ τs. Typed τs vs) laws.one ((laws.lawful 𝓛).typed x vs is)

abbrev pub one_of : {M : Type 1} {𝓤 : Ura M} (𝓛 : Logic 𝓤) {R : RattleType} → Laws R → Spelling R
one_of 𝓛 {R} laws = record { Word = Val; list = λ x v. v ∷ []; Fits = Good (layout R); told = λ x vs is. sole (layout R) vs (typed_of 𝓛 laws x vs is) }

-- of a reference
abbrev pub ref_of : (ℓ : Lifetime) (κ : Lft) (R : RattleType) → Spelling (MutRef ℓ κ R)
ref_of ℓ κ R = record { Word = Unit {0}; list = λ x w. mut_vals x; Fits = λ w. Unit {0}; told = λ x vs is. (tt, mut_Tells ℓ κ R x vs is, tt) }

abbrev pub Spellings : List RattleType → Type 1
Spellings [] = Unit {1}
Spellings (R ∷ Rs) = Spelling R × Spellings Rs

abbrev pub Words : (Rs : List RattleType) → Spellings Rs → Type 0
Words [] sp = Unit {0}
Words (R ∷ Rs) sp = sp.0.Word × Words Rs sp.1

abbrev pub lists : (Rs : List RattleType) (sp : Spellings Rs) → Denots Rs → Words Rs sp → Valss Rs
lists [] sp a w = tt
lists (R ∷ Rs) sp a w = (sp.0.list a.0 w.0, lists Rs sp.1 a.1 w.1)

abbrev pub Fitting : (Rs : List RattleType) (sp : Spellings Rs) → Words Rs sp → Type 0
Fitting [] sp w = Unit {0}
Fitting (R ∷ Rs) sp w = sp.0.Fits w.0 × Fitting Rs sp.1 w.1

spelled : (Rs : List RattleType) (sp : Spellings Rs) (a : Denots Rs) (vss : Valss Rs) → Are Rs (Ises Rs) a vss → (w : Words Rs sp) × (vss ≡ lists Rs sp a w) × Fitting Rs sp w
spelled [] sp a vss are = (tt, refl, tt)
spelled (R ∷ Rs) sp a vss are =
    let one = sp.0.told a.0 vss.0 are.0 in let more = spelled Rs sp.1 a.1 vss.1 are.1 in
    ((one.0, more.0), (λ j. (one.1 j, more.1 j)), (one.2, more.2))

module _ {M : Type 1} {𝓤 : Ura M} (𝓛 : Logic 𝓤) (T : Ended) (hs : Stays T.signature.params T.kept) (c : Clauses 𝓤 T) (𝓜 : Model 𝓤 𝓛.H) (𝓡 : Running 𝓤 𝓛.H 𝓜) where
  open 𝓛 use {H}

  abbrev S : Signature
  S = T.signature

  abbrev 𝓣 : MachineTables 𝓤 H 𝓜
  𝓣 = tables 𝓤 H 𝓜 𝓡 𝓡.env

  pub proved_by : AllGo 𝓛 S.lifetimes S.params T.kept hs → (k : Callee) (e : Fn) → Closed 𝓤 H 𝓣.C 𝓣.Λ k e → (sp : (κs : Lfts S.lifetimes) → Spellings (types_at S.params κs))
      → ((κs : Lfts S.lifetimes) (qs : Shares S.lifetimes) (bounds : AllOutlive S.lifetimes S.outlives κs) (a : Args S κs) (g : (c κs a).ghost) (w : Words (types_at S.params κs) (sp κs)) → Fitting (types_at S.params κs) (sp κs) w
      → ent 𝓤 ((walk_of 𝓛 T hs c).pre ((κs, qs, bounds, a, lists (types_at S.params κs) (sp κs) a w), g))
      (WpFn 𝓤 H 𝓣.C 𝓣.Λ e ((walk_of 𝓛 T hs c).args ((κs, qs, bounds, a, lists (types_at S.params κs) (sp κs) a w), g)) ((walk_of 𝓛 T hs c).post ((κs, qs, bounds, a, lists (types_at S.params κs) (sp κs) a w), g))))
      → Meets 𝓛 S (𝓣.C k) (closing 𝓛 T c)
  proved_by go k e closed sp walk = proved_at 𝓛 T hs c 𝓜 𝓡 go k e closed (λ y are.
      let Rs = types_at S.params y.0.0 in let told = spelled Rs (sp y.0.0) y.0.3 y.0.4 are in let W = walk_of 𝓛 T hs c in
      subst (λ (us : Valss Rs). ent 𝓤 (W.pre ((y.0.0, y.0.1, y.0.2, y.0.3, us), y.1)) (WpFn 𝓤 H 𝓣.C 𝓣.Λ e (W.args ((y.0.0, y.0.1, y.0.2, y.0.3, us), y.1)) (W.post ((y.0.0, y.0.1, y.0.2, y.0.3, us), y.1)))) (sym told.1)
      (walk y.0.0 y.0.1 y.0.2 y.0.3 y.1 told.0 told.2))

-- all lifetimes but the last
abbrev pub front : (n : ℕ) → Lfts (suc n) → Lfts n
front zero κs = tt
front (suc n) κs = (κs.0, front n κs.1)

abbrev pub shares : (n : ℕ) → Shares (suc n) → Shares n
shares zero qs = tt
shares (suc n) qs = (qs.0, shares n qs.1)

pub record Within {M : Type 1} (𝓤 : Ura M) (alive alive₁ req req₁ : SProp 𝓤) : Type 2 where
  pub spare : SProp 𝓤
  pub parts : ent 𝓤 alive (sep 𝓤 alive₁ spare)
  pub whole : ent 𝓤 (sep 𝓤 alive₁ spare) alive
  pub knows : ent 𝓤 req (sep 𝓤 req₁ req)

module _ {M : Type 1} (𝓤 : Ura M) where
  abbrev pub facts : List (Type 0) → SProp 𝓤 → SProp 𝓤
  facts [] R = R
  facts (φ ∷ φs) R = sep 𝓤 (fact 𝓤 φ) (facts φs R)

  more : (φ : Type 0) (P : SProp 𝓤) → φ → ent 𝓤 P (sep 𝓤 (fact 𝓤 φ) P)
  more φ P x = via 𝓤 (sep 𝓤 (emp 𝓤) P) (emp∗ 𝓤 P) (mono_l 𝓤 P (fact_i 𝓤 φ (emp 𝓤) x))

  known : (φs : List (Type 0)) (R : SProp 𝓤) → ent 𝓤 (facts φs R) (sep 𝓤 (facts φs (emp 𝓤)) (facts φs R))
  known [] R = emp∗ 𝓤 R
  known (φ ∷ φs) R = let rest = facts φs R in let bare = facts φs (emp 𝓤) in
      fact_use 𝓤 φ (fst∗ 𝓤 (fact 𝓤 φ) rest) (λ x. via 𝓤 rest (snd∗ 𝓤 (fact 𝓤 φ) rest) (via 𝓤 (sep 𝓤 bare rest) (known φs R) (mono∗ 𝓤 (more φ bare x) (more φ rest x))))

  pub apart : (φs : List (Type 0)) (P Q : SProp 𝓤) → ent 𝓤 (facts φs (sep 𝓤 P Q)) (sep 𝓤 (facts φs P) Q)
  apart [] P Q = id⊢ 𝓤 (sep 𝓤 P Q)
  apart (φ ∷ φs) P Q = via 𝓤 (sep 𝓤 (fact 𝓤 φ) (sep 𝓤 (facts φs P) Q)) (mono_r 𝓤 (fact 𝓤 φ) (apart φs P Q)) (assoc' 𝓤 (fact 𝓤 φ) (facts φs P) Q)

  pub twice : (φs : List (Type 0)) → ent 𝓤 (facts φs (emp 𝓤)) (sep 𝓤 (facts φs (emp 𝓤)) (facts φs (emp 𝓤)))
  twice φs = known φs (emp 𝓤)

  pub all_of : (alive : SProp 𝓤) (φs : List (Type 0)) → Within 𝓤 alive alive (facts φs (emp 𝓤)) (facts φs (emp 𝓤))
  all_of alive φs = record {
    spare = emp 𝓤;
    parts = via 𝓤 (sep 𝓤 (emp 𝓤) alive) (emp∗ 𝓤 alive) (comm∗ 𝓤 (emp 𝓤) alive);
    whole = fst∗ 𝓤 alive (emp 𝓤);
    knows = known φs (emp 𝓤);
  }

module _ {M : Type 1} {𝓤 : Ura M} (𝓛 : Logic 𝓤) where
  open 𝓛 use {A}

  abbrev last_one : (n : ℕ) → Lfts (suc n) → Shares (suc n) → SProp 𝓤
  last_one zero κs qs = toks 𝓛 (suc zero) κs qs
  last_one (suc n) κs qs = last_one n κs.1 qs.1

  cut : (n : ℕ) (κs : Lfts (suc n)) (qs : Shares (suc n)) → ent 𝓤 (toks 𝓛 (suc n) κs qs) (sep 𝓤 (toks 𝓛 n (front n κs) (shares n qs)) (last_one n κs qs))
  cut zero κs qs = emp∗ 𝓤 (toks 𝓛 (suc zero) κs qs)
  cut (suc n) κs qs = let here = A.lft κs.0 qs.0 in let rest = toks 𝓛 n (front n κs.1) (shares n qs.1) in let end = last_one n κs.1 qs.1 in
      via 𝓤 (sep 𝓤 here (sep 𝓤 rest end)) (mono_r 𝓤 here (cut n κs.1 qs.1)) (assoc' 𝓤 here rest end)

  glue : (n : ℕ) (κs : Lfts (suc n)) (qs : Shares (suc n)) → ent 𝓤 (sep 𝓤 (toks 𝓛 n (front n κs) (shares n qs)) (last_one n κs qs)) (toks 𝓛 (suc n) κs qs)
  glue zero κs qs = snd∗ 𝓤 (emp 𝓤) (toks 𝓛 (suc zero) κs qs)
  glue (suc n) κs qs = let here = A.lft κs.0 qs.0 in let rest = toks 𝓛 n (front n κs.1) (shares n qs.1) in let end = last_one n κs.1 qs.1 in
      via 𝓤 (sep 𝓤 here (sep 𝓤 rest end)) (assoc∗ 𝓤 here rest end) (mono_r 𝓤 here (glue n κs.1 qs.1))

  pub but_last : (n : ℕ) (κs : Lfts (suc n)) (qs : Shares (suc n)) (φs : List (Type 0)) (R : SProp 𝓤)
      → Within 𝓤 (toks 𝓛 (suc n) κs qs) (toks 𝓛 n (front n κs) (shares n qs)) (facts 𝓤 φs R) (facts 𝓤 φs (emp 𝓤))
  but_last n κs qs φs R = record { spare = last_one n κs qs; parts = cut n κs qs; whole = glue n κs qs; knows = known 𝓤 φs R }
