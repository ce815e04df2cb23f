-- A `&` to the slots is one to each item, and needs nothing of the value without bytes. Assumes `Logic`.
use Rattle.wasmi_arena.proofs.Steps.{Incl-trans, RattleType, RawPtr, Laws, copy_shared, field_copy, of_Lends}
use mathlib.Core.List.{[], ◌++◌}
use contract.BorrowLft.{meet_⊑_left}
use Rattle.core.specs.contracts.marker.PhantomData as marker
use Rattle.wasmi_arena.specs.contracts.raw.block.Slots as Slots
use Rattle.wasmi_arena.proofs.raw.block.Slots.TheLaw.Statement.{statement}
use Rattle.wasmi_arena.proofs.Sharing.{slots_lend-laws, slots-lend}

pub shares : (T : RattleType) (laws : Laws T) → statement T laws
shares T laws =
    let inside = Incl-trans (meet_⊑_left (T.lives ++ []) _) (meet_⊑_left T.lives []) in
    of_Lends (Slots.struct T) (Slots.the_codes T.Denot T.coded (marker.the_row RawPtr).coded) (Slots.the_heap T) (Slots.the_lent T)
    (λ s p. slots_lend-laws T laws.shr_laws s.block s.taken s.items s.free)
    (copy_shared (marker.the_field RawPtr) (field_copy (marker.the_type RawPtr) tt), tt)
    (λ M 𝓤 𝓛 s p. slots-lend T 𝓛 (Slots.the_row T).lives laws inside s.block s.taken s.items s.free)
