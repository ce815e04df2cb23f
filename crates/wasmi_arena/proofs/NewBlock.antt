-- The three parts of a block as one value, for the calls that make them and give them back. Assumes `Logic`.
--     RightRow, Parts      the types of `DeallocRight` and of the three parts together
--     new_parts, parts_val, is_new      a new block at p, its machine value, and that it is new
--     parts_made      it is made of its empty slots and the right to give it back
--     enters_alloc, leaves_alloc      the frame of a call on `&A`, with a number behind it
use mathlib.Core.Path.{refl}
use Prim.Native.Nat.{ℕ}
use mathlib.Core.List.{List, [], ◌∷◌}
use Rattle.wasmi_arena.proofs.Steps.{T, Ura, SProp, ent, sep, Lft, Share, Fml, ftrue, flft, named, Val, vstruct, vcons, vnil, Logic, sem, Goal, Step, Item, ⋆, ‵, raw, ◌⊛◌, ◌$◌, ◌∵◌, !, qed, by, done, move, keep, drop, use0, split, join, fsplit, fjoin, fpack, feq_i, ◌⊑◌, fact, Tells, Is, param_laws, hidden_shr, layout, RattleType, Valss, Ptr, block_ptr, ptr_val, Bor, ShrRef, shr_vals, nothing, heard, owned, Struct, Struct-Makes, within, Tuple, tuple_type}
use denote.Struct.Owning.{shape}
use denote.Struct.Declared as Declared
use Rattle.core.proofs.alloc.Calls.{Al, token}
use Rattle.core.proofs.mem.Param.{El, R}
use Rattle.core.proofs.slots.Leases.{P}
use Rattle.std_alloc.proofs.RcSteps.{Good, word}
use Rattle.wasmi_arena.specs.inner.Block.{slots_own, right_owns}
use Rattle.wasmi_arena.specs.inner.Slots.{IsNewBlock}
use Rattle.wasmi_arena.specs.contracts.raw.block.BlockPtr as PtrType
use Rattle.wasmi_arena.specs.contracts.raw.block.Slots as SlotsType
use Rattle.wasmi_arena.specs.contracts.raw.block.DeallocRight as RightType
use Rattle.wasmi_arena.proofs.raw.block.Slots.TheLaws as SlotsLaws
use Rattle.wasmi_arena.proofs.raw.block.DeallocRight.TheLaws as RightLaws
use Rattle.wasmi_arena.proofs.Frame.{SlotsRow, PtrRow, Marker, let_go, gone}

-- the machine value of a struct whose one field is a `PhantomData`
abbrev pub marker : Val
marker = vstruct (vcons (vstruct vnil) vnil)

module _ (E : El) (Z : Al) where
  abbrev pub RightRow : RattleType
  RightRow = RightType.the_row (R E) (P E Z) Z.g

  abbrev pub Parts : RattleType
  Parts = Tuple (PtrRow E ∷ SlotsRow E ∷ RightRow ∷ [])

  -- a new block of n slots at p, of the allocator a
  abbrev pub new_parts : Ptr → ℕ → Z.row.Denot → Parts.Denot
  new_parts p n a = (record { start = p }, record { marker = record {}; block = p; taken = 0; items = []; free = n }, record { marker = record {}; block = p; slots = n; alloc = a })

  abbrev pub parts_val : Ptr → Val
  parts_val p = vstruct (vcons (word p) (vcons marker (vcons marker vnil)))

  pub is_new : (p : Ptr) (n : ℕ) (a : Z.row.Denot) → let x = new_parts p n a in IsNewBlock x.0 x.1 x.2 n a
  is_new p n a = record {
    one = record { block = refl; right_block = refl; right_slots = refl; right_alloc = refl };
    none_taken = refl;
    no_items = refl;
    all_free = refl;
  }

  -- the two values without bytes
  pub slots_tells : Tells (SlotsRow E) (Is (SlotsRow E)) (λ s. marker ∷ [])
  slots_tells = (SlotsLaws.lowers (R E) (param_laws 0 E.row E.laws)).val_is

  pub right_tells : Tells RightRow (Is RightRow) (λ r. marker ∷ [])
  right_tells = (RightLaws.lowers (R E) (P E Z) Z.g (param_laws 0 E.row E.laws) (param_laws 1 Z.row Z.laws)).val_is

  pub parts_typed : (b o : ℕ) → Good (layout Parts) (parts_val (block_ptr b o))
  parts_typed b o = (tt, ((tt, tt), ((tt, tt), ((tt, tt), tt))))

  module _ {M : Type 1} {𝓤 : Ura M} {𝓛 : Logic 𝓤} {K : Type 0} {Γ : List (Item 𝓤)} {G : Goal 𝓤 𝓛.H} where
    -- a struct without bytes is had for nothing
    marked : K → Step K 𝓛 (‵ ((Marker E).own_val (tt, tt) (marker ∷ [])) ∷ Γ) G Γ G
    marked t = owned t (Marker E) (Is (Marker E)) (Struct-Makes 𝓛 (shape (SlotsType.the_type (R E))) ((λ x vs u. (tt, tt)), tt)) (tt, tt) (marker ∷ []) ((vstruct vnil ∷ [], tt), (refl, ((tt, (refl, tt)), tt)))

  module _ {M : Type 1} {𝓤 : Ura M} (𝓛 : Logic 𝓤) where
    pub parts_made : (p : Ptr) (n : ℕ) (a : Z.row.Denot) → ent 𝓤 (sep 𝓤 (sem 𝓛 (slots_own (R E) p 0 [] n)) (sem 𝓛 (right_owns (R E) (token Z a) p n))) (sem 𝓛 (Parts.own_val (new_parts p n a) (parts_val p ∷ [])))
    parts_made p n a =
        let Ptr' = Declared.shape (PtrType.the_type (R E)) in
        qed 𝓛 (‵ (slots_own (R E) p 0 [] n) ∷ ‵ (right_owns (R E) (token Z a) p n) ∷ []) ∵
        marked ! $ fjoin ! $ move ! (1 ∷ []) $
        marked ! $ fjoin ! $ nothing ! $ move ! (1 ∷ 0 ∷ []) $ fjoin ! $ move ! (1 ∷ 0 ∷ []) $ fjoin ! $
        owned ! (Struct Ptr') (Is (Struct Ptr')) (Struct-Makes 𝓛 Ptr' ((λ c vs. tt), tt)) (p, tt) (word p ∷ []) ((ptr_val p ∷ [], tt), (refl, (refl, tt))) $ fjoin ! $
        feq_i ! (List Val) (parts_val p ∷ []) (parts_val p ∷ []) refl $ fjoin ! $
        fpack ! (Valss (PtrRow E ∷ SlotsRow E ∷ RightRow ∷ [])) (within (Declared.shape (tuple_type (PtrRow E ∷ SlotsRow E ∷ RightRow ∷ []))) ((new_parts p n a).0, ((new_parts p n a).1, ((new_parts p n a).2, tt))) (parts_val p ∷ []))
        (word p ∷ [], (marker ∷ [], (marker ∷ [], tt))) $ done !

-- the frame of a call on `&A`, with a number and other parameters behind it, which own `rest`
module _ (E : El) (Z : Al) {M : Type 1} {𝓤 : Ura M} (𝓛 : Logic 𝓤) (κ κ₁ κ₂ : Lft) (q q₁ q₂ : Share) where
  abbrev pub alloc_tokens : Item 𝓤
  alloc_tokens = ‵ (flft κ q) ⊛ ‵ (flft κ₁ q₁) ⊛ ‵ (flft κ₂ q₂) ⊛ ‵ ftrue

  abbrev pub others : Item 𝓤
  others = ‵ (flft κ₁ q₁) ⊛ ‵ (flft κ₂ q₂) ⊛ ‵ ftrue

  pub enters_alloc : (self : Bor Z.row.Denot) (rest : Fml) (ψ : Type 0) (Asks Q : SProp 𝓤)
      → (κ₂ ⊑ Z.row.lives → ent 𝓤 (⋆ 𝓛 (‵ (hidden_shr (P E Z) κ self.now self.ref_ptr.0 self.ref_ptr.1) ∷ ‵ (flft κ q) ∷ others ∷ ‵ rest ∷ raw Asks ∷ [])) Q)
      → ent 𝓤 (⋆ 𝓛 (((alloc_tokens ⊛ ‵ ((ShrRef (named 0) κ (P E Z)).own_val self (shr_vals self)) ⊛ ‵ rest) ⊛ raw (fact 𝓤 ψ) ⊛ raw (fact 𝓤 (κ₂ ⊑ Z.row.lives)) ⊛ raw Asks) ∷ [])) Q
  enters_alloc self rest ψ Asks Q go =
      qed 𝓛 (((alloc_tokens ⊛ ‵ ((ShrRef (named 0) κ (P E Z)).own_val self (shr_vals self)) ⊛ ‵ rest) ⊛ raw (fact 𝓤 ψ) ⊛ raw (fact 𝓤 (κ₂ ⊑ Z.row.lives)) ⊛ raw Asks) ∷ []) ∵
      split ! $ move ! (1 ∷ []) $ split ! $ drop ! $ split ! $ heard ! _ (λ within. move ! (1 ∷ []) $ split ! $ split ! $ move ! (2 ∷ []) $ split ! $ fsplit ! $
      keep ! (1 ∷ 3 ∷ 4 ∷ 2 ∷ 5 ∷ []) $ by ! (go within))

  pub leaves_alloc : (n : ℕ) (T : RattleType) (r : T.Denot) (v : Val)
      → ent 𝓤 (⋆ 𝓛 (‵ (T.own_val r (v ∷ [])) ∷ ‵ (flft κ q) ∷ others ∷ [])) (⋆ 𝓛 (alloc_tokens ∷ ‵ (let_go n) ∷ ‵ (T.own_val r (v ∷ [])) ∷ []))
  leaves_alloc n T r v =
      qed 𝓛 (‵ (T.own_val r (v ∷ [])) ∷ ‵ (flft κ q) ∷ others ∷ []) ∵ use0 𝓛 (‵ (let_go n)) (gone 𝓛 n) $ move ! (2 ∷ 3 ∷ []) $ join ! $ done !
