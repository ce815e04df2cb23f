use Rattle.std.proofs.Common.{◌≡◌, ◌<◌, ℕ, List, length, slice_get, None, inl, inr}
use Rattle.std.proofs.Math.Nat.{not-le_of_lt}
use Rattle.std.proofs.lemmas.Option.{slice_get_cases}
use Rattle.wasmi_arena.proofs.stable_vec.index.StableVecIndexUsize.index.Goals as goal

-- there is an item at an index below the length
item_there : {T : Type 0} (items : List T) (i : ℕ) → i < length items → None ≡ slice_get items i → ⊥
item_there items i below none = elim (slice_get_cases items i).1 [
  | inl some ↦ (let there = some.2 in cc)
  | inr past ↦ not-le_of_lt below past.0
]

pub unreachable-requires : goal.unreachable-requires
unreachable-requires g c = item_there _ _ c.requires c.in-None.ensures
