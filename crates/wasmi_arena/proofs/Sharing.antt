-- A `&` to the slots of a block can be made from what they own, as a `&` to each item. Assumes `Logic`.
use Prim.Native.Nat.{ℕ, ◌+◌, ◌*◌}
use mathlib.Core.List.{List, [], ◌∷◌}
use Rattle.wasmi_arena.proofs.Steps.{Ura, full_share, Lft, ftrue, fsep, Logic, RattleType, row, Laws, Ptr, block_ptr, null_ptr, elements_shared, Lends-nothing, part_at, shared_of, length}
use base.Fml.{Incl, ffalse}
use denote.RattleType.{RowLaws}
use denote.Sharing.{ShrLaws, said}
use denote.SharingLaws.{beside_shr_laws, said_shr_laws}
use denote.Shares.{Shares-less}
use denote.Slice.{elements_shr_laws}
use denote.Struct.Lending.{Lends, Lends-both, Lends-first, Lends-said, Lends-false}
use Rattle.std.specs.Mem.{type_size}
use Rattle.wasmi_arena.specs.inner.Block.{empty, runs, fit, slots_own, slots_lend}

module _ (R : RattleType) where
  pub slots_lend-laws : RowLaws R → (p : Ptr) (taken : ℕ) (items : List R.Denot) (free : ℕ) → ShrLaws (slots_lend R p taken items free)
  slots_lend-laws laws null_ptr taken items free = said_shr_laws ffalse tt
  slots_lend-laws laws (block_ptr b o) taken items free =
      beside_shr_laws _ _ (said_shr_laws (fit R taken items free) tt) (elements_shr_laws R laws items b (taken * type_size R + o))

  module _ {M : Type 1} {𝓤 : Ura M} (𝓛 : Logic 𝓤) (l : Lft) (laws : Laws R) (inside : Incl l R.lives) where
    items-lend : (items : List R.Denot) (b o : ℕ) → Lends 𝓛 (row R full_share items b o) (elements_shared R items b o) l
    items-lend [] b o = Lends-nothing 𝓛 ftrue l
    items-lend (item ∷ items) b o = Lends-both 𝓛 (part_at R full_share item b o) (row R full_share items b (o + type_size R))
        (shared_of R item b o) (elements_shared R items b (o + type_size R)) l (λ κ ts. Shares-less 𝓛 R R.lives l inside (laws.shares 𝓛) item κ ts b o)
        (items-lend items b (o + type_size R))

    pub slots-lend : (p : Ptr) (taken : ℕ) (items : List R.Denot) (free : ℕ) → Lends 𝓛 (slots_own R p taken items free) (slots_lend R p taken items free) l
    slots-lend null_ptr taken items free = Lends-false 𝓛 (said ffalse) l
    slots-lend (block_ptr b o) taken items free =
        let first = taken * type_size R + o in let gaps = fsep (empty R taken b o) (empty R free b ((taken + length items) * type_size R + o)) in
        Lends-both 𝓛 (fit R taken items free) (runs R b o taken items free) (said (fit R taken items free)) (elements_shared R items b first) l
        (Lends-said 𝓛 (fit R taken items free) tt l) (Lends-first 𝓛 (row R full_share items b first) gaps (elements_shared R items b first) l (items-lend items b first))
