-- What the proofs by hand share. Assumes `Logic`.
--     SlotsRow, PtrRow      the types of `Slots` and `BlockPtr`.        ptr_vals, ptr_tells      a pointer's machine value
--     opens_slots, closes_slots      a `&mut Slots` is opened to its three runs of slots, and closed at others
--     says_two      an `ensures` of two facts.        let_go, gone      what is left of parameters that were let go
use mathlib.Core.Path.{◌≡◌, refl, sym}
use Prim.Native.Nat.{ℕ, zero, suc, ◌+◌, ◌*◌, ◌<◌, ◌^◌}
use mathlib.Core.List.{List, [], ◌∷◌}
use Rattle.wasmi_arena.proofs.Steps.{length, Ura, full_share, SProp, ent, sep, emp, never, id⊢, Lft, GName, Share, Fml, ftrue, fsep, fobs, fbor, flft, fobor, fauth, named, w64, Val, Logic, sem, Item, Goal, Step, prop, ⋆, ‵, raw, ◌⊛◌, ◌$◌, ◌∵◌, !, qed, by, done, use0, move, keep, drop, split, fsplit3, fjoin3, feq_i, join, fsplit, fjoin, flt_l, flt_i, rewrite, Body, fact, Tells, Is, mem, cell_at, hidden_shr, RattleType, usize, uint_vals, Bor, ShrRef, shr_vals, MutBor, MutRef, mut_vals, param_laws, Ptr, block_ptr, in_a_block, nothing, heard, Struct}
use base.Logic.{via}
use base.Stored.{Gv}
use types.Kit.{Soaks, Seq, step}
use contract.Monad.{fact_i}
use denote.Steps.{opens, closes}
use denote.Struct.Owning.{shape}
use Rattle.core.proofs.mem.Param.{El, R}
use Rattle.std.specs.Mem.{type_size}
use Rattle.std_alloc.proofs.RcSteps.{word}
use Rattle.wasmi_arena.specs.inner.Block.{runs, slots_own}
use Rattle.wasmi_arena.specs.contracts.raw.block.Slots as SlotsType
use Rattle.wasmi_arena.specs.contracts.raw.block.BlockPtr as PtrType
use Rattle.wasmi_arena.proofs.raw.block.BlockPtr.TheLaws as PtrLaws

module _ (E : El) where
  abbrev pub SlotsRow : RattleType
  SlotsRow = SlotsType.the_row (R E)

  abbrev pub PtrRow : RattleType
  PtrRow = PtrType.the_row (R E)

  -- the field without bytes
  abbrev pub Marker : RattleType
  Marker = Struct (shape (SlotsType.the_type (R E)))

  -- a pointer is one machine word, in a struct
  abbrev pub ptr_vals : (PtrRow).Denot → List Val
  ptr_vals ptr = word ptr.start ∷ []

  pub ptr_tells : Tells PtrRow (Is PtrRow) ptr_vals
  ptr_tells = (PtrLaws.lowers (R E) (param_laws 0 E.row E.laws)).val_is

  -- all slots of a value without bytes take so many bytes
  abbrev pub bytes : (SlotsRow).Denot → ℕ
  bytes s = (s.taken + length s.items + s.free) * type_size (R E)

module _ {M : Type 1} {𝓤 : Ura M} {𝓛 : Logic 𝓤} {K : Type 0} {Γ : List (Item 𝓤)} where
  open 𝓛 use {H}

  pub says_two : K → {φ ψ : Type 0} {P : SProp 𝓤} → φ → ψ → Step K 𝓛 Γ (prop P) Γ (prop (sep 𝓤 P (sep 𝓤 (fact 𝓤 φ) (fact 𝓤 ψ))))
  says_two t {φ} {ψ} {P} x y = step (λ k. record {
    prf = via 𝓤 P k.prf (qed 𝓛 (raw P ∷ []) ∵ use0 𝓛 (raw (fact 𝓤 ψ)) (fact_i 𝓤 ψ (emp 𝓤) y) $ use0 𝓛 (raw (fact 𝓤 φ)) (fact_i 𝓤 φ (emp 𝓤) x) $ move ! (2 ∷ []) $ done !);
  })

  module _ (E : El) {G : Goal 𝓤 H} where
    pub opens_slots : K → Soaks G → {κ : Lft} {q : Share} {γ : GName} (s : (SlotsRow E).Denot) (rb ro : ℕ)
        → ((vs : List Val) (b o : ℕ) → s.block ≡ block_ptr b o → bytes E s < 2 ^ 63
        → Seq K 𝓛 (‵ (runs (R E) b o s.taken s.items s.free) ∷ ‵ ((Marker E).own_val (tt, tt) vs) ∷ ‵ (cell_at full_share (SlotsRow E).mir vs rb ro)
        ∷ ‵ (fobor κ q (Body (mem (SlotsRow E)) rb ro γ)) ∷ ‵ (fobs γ ((SlotsRow E).coded.code s)) ∷ ‵ (fauth γ ((SlotsRow E).coded.code s)) ∷ Γ) G)
        → Seq K 𝓛 (‵ (fobs γ ((SlotsRow E).coded.code s)) ∷ ‵ (fbor κ (Body (mem (SlotsRow E)) rb ro γ)) ∷ ‵ (flft κ q) ∷ Γ) G
    opens_slots t soaks s rb ro go =
        opens t soaks (SlotsRow E) {h = s} rb ro (λ vs. move t (1 ∷ []) $ fsplit t $ move t (1 ∷ []) $
        in_a_block t s.block (λ p. slots_own (R E) p s.taken s.items s.free) (id⊢ 𝓤 (never 𝓤)) (λ b o at. fsplit t $ flt_l t (λ small. go vs b o at small)))

    pub closes_slots : K → Soaks G → {κ : Lft} {q : Share} {u v : Gv} {γ : GName} (s : (SlotsRow E).Denot) (vs : List Val) (rb ro b o : ℕ) → s.block ≡ block_ptr b o → bytes E s < 2 ^ 63
        → Step K 𝓛 (‵ (fobs γ ((SlotsRow E).coded.code s)) ∷ ‵ (fbor κ (Body (mem (SlotsRow E)) rb ro γ)) ∷ ‵ (flft κ q) ∷ Γ) G
        (‵ (runs (R E) b o s.taken s.items s.free) ∷ ‵ ((Marker E).own_val (tt, tt) vs) ∷ ‵ (cell_at full_share (SlotsRow E).mir vs rb ro)
        ∷ ‵ (fobor κ q (Body (mem (SlotsRow E)) rb ro γ)) ∷ ‵ (fobs γ u) ∷ ‵ (fauth γ v) ∷ Γ) G
    closes_slots t soaks s vs rb ro b o at small = step (λ k.
        flt_i t (bytes E s) (2 ^ 63) small $ fjoin t $ rewrite t 0 (λ (p : Ptr). ‵ (slots_own (R E) p s.taken s.items s.free)) (sym at) refl $
        move t (1 ∷ 0 ∷ []) $ fjoin t $ move t (1 ∷ 0 ∷ []) $ closes t soaks (SlotsRow E) s vs rb ro $ k)

-- what is left of n parameters that the function let go
abbrev pub let_go : ℕ → Fml
let_go zero = ftrue
let_go (suc n) = fsep ftrue (let_go n)

pub gone : {M : Type 1} {𝓤 : Ura M} (𝓛 : Logic 𝓤) (n : ℕ) → ent 𝓤 (emp 𝓤) (sem 𝓛 (let_go n))
gone {𝓤 = 𝓤} 𝓛 zero = id⊢ 𝓤 (emp 𝓤)
gone 𝓛 (suc n) = qed 𝓛 [] ∵ use0 𝓛 (‵ (let_go n)) (gone 𝓛 n) $ nothing ! $ fjoin ! $ done !

-- the frame of a call on `&mut Slots`, with a pointer and a number behind it, and more parameters that own `rest`
module _ (E : El) {M : Type 1} {𝓤 : Ura M} (𝓛 : Logic 𝓤) (κ κ' : Lft) (q q' : Share) (self : MutBor (SlotsRow E).Denot) where
  abbrev pub tokens : Item 𝓤
  tokens = ‵ (flft κ q) ⊛ ‵ (flft κ' q') ⊛ ‵ ftrue

  -- the reference at the value s, with the token of its lifetime
  abbrev pub referred : (SlotsRow E).Denot → List (Item 𝓤) → List (Item 𝓤)
  referred s Γ = ‵ (fobs self.ghost_name ((SlotsRow E).coded.code s)) ∷ ‵ (fbor κ (Body (mem (SlotsRow E)) self.ref_ptr.0 self.ref_ptr.1 self.ghost_name)) ∷ ‵ (flft κ q) ∷ (‵ (flft κ' q') ⊛ ‵ ftrue) ∷ Γ

  pub enters_slots : (ptr : (PtrRow E).Denot) (n : ℕ) (rest : Fml) (ψ φ₁ φ₂ φ₃ : Type 0) (Q : SProp 𝓤)
      → (φ₁ → φ₂ → φ₃ → ent 𝓤 (⋆ 𝓛 (referred self.now (‵ rest ∷ []))) Q)
      → ent 𝓤 (⋆ 𝓛 (((tokens ⊛ ‵ ((MutRef (named 0) κ (SlotsRow E)).own_val self (mut_vals self)) ⊛ ‵ ((PtrRow E).own_val ptr (ptr_vals E ptr)) ⊛ ‵ (usize.own_val n (uint_vals w64 n)) ⊛ ‵ rest)
      ⊛ raw (fact 𝓤 ψ) ⊛ raw (fact 𝓤 φ₁) ⊛ raw (fact 𝓤 φ₂) ⊛ raw (fact 𝓤 φ₃)) ∷ [])) Q
  enters_slots ptr n rest ψ φ₁ φ₂ φ₃ Q go =
      qed 𝓛 (((tokens ⊛ ‵ ((MutRef (named 0) κ (SlotsRow E)).own_val self (mut_vals self)) ⊛ ‵ ((PtrRow E).own_val ptr (ptr_vals E ptr)) ⊛ ‵ (usize.own_val n (uint_vals w64 n)) ⊛ ‵ rest)
      ⊛ raw (fact 𝓤 ψ) ⊛ raw (fact 𝓤 φ₁) ⊛ raw (fact 𝓤 φ₂) ⊛ raw (fact 𝓤 φ₃)) ∷ []) ∵
      split ! $ move ! (1 ∷ []) $ split ! $ drop ! $ split ! $ heard ! φ₁ (λ x. split ! $ heard ! φ₂ (λ y. heard ! φ₃ (λ z.
      split ! $ split ! $ move ! (2 ∷ []) $ split ! $ fsplit3 ! $ move ! (3 ∷ []) $ split ! $ move ! (1 ∷ []) $ split ! $ keep ! (4 ∷ 5 ∷ 6 ∷ 7 ∷ 1 ∷ []) $ by ! (go x y z))))

  pub leaves_slots : (s : (SlotsRow E).Denot) (n : ℕ) (T : RattleType) (r : T.Denot) (v : Val)
      → ent 𝓤 (⋆ 𝓛 (referred s (‵ (T.own_val r (v ∷ [])) ∷ []))) (⋆ 𝓛 (tokens ∷ ‵ (fsep ((MutRef (named 0) κ (SlotsRow E)).own_val (record self { now = s }) (mut_vals self)) (let_go n)) ∷ ‵ (T.own_val r (v ∷ [])) ∷ []))
  leaves_slots s n T r v =
      qed 𝓛 (referred s (‵ (T.own_val r (v ∷ [])) ∷ [])) ∵ use0 𝓛 (‵ (let_go n)) (gone 𝓛 n) $ move ! (1 ∷ 2 ∷ []) $
      feq_i ! (List Val) (mut_vals self) (mut_vals self) refl $ fjoin3 ! $ fjoin ! $ move ! (1 ∷ 2 ∷ []) $ join ! $ done !

-- the frame of a call on `&Slots`, with a pointer and a number behind it
module _ (E : El) {M : Type 1} {𝓤 : Ura M} (𝓛 : Logic 𝓤) (κ κ' : Lft) (q q' : Share) where
  abbrev both_tokens : Item 𝓤
  both_tokens = ‵ (flft κ q) ⊛ ‵ (flft κ' q') ⊛ ‵ ftrue

  pub enters_shared : (self : Bor (SlotsRow E).Denot) (ptr : (PtrRow E).Denot) (n : ℕ) (ψ φ₁ φ₂ φ₃ : Type 0) (Q : SProp 𝓤)
      → (φ₁ → φ₂ → φ₃ → ent 𝓤 (⋆ 𝓛 (‵ (hidden_shr (SlotsRow E) κ self.now self.ref_ptr.0 self.ref_ptr.1) ∷ ‵ (flft κ q) ∷ (‵ (flft κ' q') ⊛ ‵ ftrue) ∷ [])) Q)
      → ent 𝓤 (⋆ 𝓛 (((both_tokens ⊛ ‵ ((ShrRef (named 0) κ (SlotsRow E)).own_val self (shr_vals self)) ⊛ ‵ ((PtrRow E).own_val ptr (ptr_vals E ptr)) ⊛ ‵ (usize.own_val n (uint_vals w64 n)) ⊛ ‵ ftrue)
      ⊛ raw (fact 𝓤 ψ) ⊛ raw (fact 𝓤 φ₁) ⊛ raw (fact 𝓤 φ₂) ⊛ raw (fact 𝓤 φ₃)) ∷ [])) Q
  enters_shared self ptr n ψ φ₁ φ₂ φ₃ Q go =
      qed 𝓛 (((both_tokens ⊛ ‵ ((ShrRef (named 0) κ (SlotsRow E)).own_val self (shr_vals self)) ⊛ ‵ ((PtrRow E).own_val ptr (ptr_vals E ptr)) ⊛ ‵ (usize.own_val n (uint_vals w64 n)) ⊛ ‵ ftrue)
      ⊛ raw (fact 𝓤 ψ) ⊛ raw (fact 𝓤 φ₁) ⊛ raw (fact 𝓤 φ₂) ⊛ raw (fact 𝓤 φ₃)) ∷ []) ∵
      split ! $ move ! (1 ∷ []) $ split ! $ drop ! $ split ! $ heard ! φ₁ (λ x. split ! $ heard ! φ₂ (λ y. heard ! φ₃ (λ z.
      split ! $ split ! $ move ! (2 ∷ []) $ split ! $ fsplit ! $ keep ! (1 ∷ 3 ∷ 4 ∷ []) $ by ! (go x y z))))

  -- nothing is left of n parameters
  pub leaves_none : (n : ℕ) (T : RattleType) (r : T.Denot) (v : Val)
      → ent 𝓤 (⋆ 𝓛 (‵ (T.own_val r (v ∷ [])) ∷ ‵ (flft κ q) ∷ (‵ (flft κ' q') ⊛ ‵ ftrue) ∷ [])) (⋆ 𝓛 (both_tokens ∷ ‵ (let_go n) ∷ ‵ (T.own_val r (v ∷ [])) ∷ []))
  leaves_none n T r v =
      qed 𝓛 (‵ (T.own_val r (v ∷ [])) ∷ ‵ (flft κ q) ∷ (‵ (flft κ' q') ⊛ ‵ ftrue) ∷ []) ∵ use0 𝓛 (‵ (let_go n)) (gone 𝓛 n) $ move ! (2 ∷ 3 ∷ []) $ join ! $ done !
