-- Nothing is lent by a `&` to the right to give a block back. Assumes `Logic`.
use Rattle.wasmi_arena.proofs.Steps.{RattleType, RawPtr, nothing_shr_laws, Laws, copy_shared, field_copy, of_Lends, Lends-nothing}
use Rattle.core.specs.contracts.marker.PhantomData as marker
use Rattle.core.specs.declared.alloc.Allocator.{Ghosts}
use Rattle.wasmi_arena.specs.contracts.raw.block.DeallocRight as Right
use Rattle.wasmi_arena.proofs.raw.block.DeallocRight.TheLaw.Statement.{statement}

pub shares : (T A : RattleType) (alloc : Ghosts A.Denot) (laws : Laws T) (alloc_laws : Laws A) → statement T A alloc laws alloc_laws
shares T A alloc laws alloc_laws =
    let codes = Right.the_codes T.Denot A.Denot T.coded A.coded (marker.the_row RawPtr).coded in
    of_Lends (Right.struct T A alloc) codes (Right.the_heap T A alloc) (Right.the_lent T A alloc)
    (λ r p. nothing_shr_laws) (copy_shared (marker.the_field RawPtr) (field_copy (marker.the_type RawPtr) tt), tt)
    (λ M 𝓤 𝓛 r p. Lends-nothing 𝓛 (Right.the_heap T A alloc r) (Right.the_row T A alloc).lives)
