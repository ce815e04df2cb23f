-- What an arena is after its items were lent out together.
-- for src/arena.rt, src/arena/pairs.rt
use Rattle.std.proofs.Common.{◌≡◌, ℕ, ◌-◌, List, ◌++◌, length, take, drop, slice_set, sym, ap, ◌∙◌}
use Rattle.std.proofs.Math.Seq.{take-append_seam}
use Rattle.std.proofs.lemmas.List.{length-set}
use Rattle.std.specs.declared.vec.Vec.{Vec}
use Rattle.std.specs.Vec.{vec_items, vec_len, vec_capacity, with_items}
use Rattle.wasmi_arena.specs.Arena.{ArenaState}
use Rattle.wasmi_dense.specs.Arena.{state_of}
use Rattle.wasmi_dense.specs.ArenaLoan.{written}

-- a vector with others written over its first items has the room that it had
pub state_of-with_items : {T A : Type 0} (vec : Vec T A) (last : List T) → vec_len vec ≡ length (vec_items vec)
    → state_of (with_items vec last) ≡ record (state_of vec) { items = written (vec_items vec) last }
state_of-with_items {T} vec last counted =
    let cut : ℕ → ArenaState T = λ n. record { items = take n (last ++ drop (length last) (vec_items vec)); room = vec_capacity vec - vec_len vec } in ap cut counted

-- a list written over itself
pub written-same : {T : Type 0} (items : List T) → written items items ≡ items
written-same items = take-append_seam items (drop (length items) items)

-- a list with two writes, written over the list that it was
pub written-two : {T : Type 0} (items : List T) (one other : ℕ) (x y : T)
    → written items (slice_set (slice_set items one x) other y) ≡ slice_set (slice_set items one x) other y
written-two items one other x y =
    let last = slice_set (slice_set items one x) other y in
    let counted : length last ≡ length items = length-set (slice_set items one x) other y ∙ length-set items one x in
    ap (λ n. take n (last ++ drop (length last) items)) (sym counted) ∙ take-append_seam last (drop (length last) items)
