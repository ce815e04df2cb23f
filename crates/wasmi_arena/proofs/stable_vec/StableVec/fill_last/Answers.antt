use Rattle.std.proofs.Common.{arith, ◌<◌, ◌++◌, ◌∙◌, ap}
use Rattle.std.proofs.Math.Nat.{lt_of_lt_of_le}
use Rattle.wasmi_arena.specs.inner.Table.{items_of}
use Rattle.wasmi_arena.proofs.Apart.{len_is, open_is}
use Rattle.wasmi_arena.proofs.LaidOut.{first_free, open_size, place-open, len-le_slots, slots-le_max, fits-last, items_of-fill, IsLaidOut-fill}
use Rattle.wasmi_arena.proofs.stable_vec.StableVec.fill_last.Goals as goal

pub overflow_sub-self-inside : goal.overflow_sub-self-inside
overflow_sub-self-inside g c = len-le_slots c.self.invariant

pub place_in_last-place-requires-clause-below : goal.place_in_last-place-requires-clause-below
place_in_last-place-requires-clause-below g c =
    let free : c.self.inside.len < c.self.inside.slots = (let some = c.if-filled-eq0.false in omega (arith, c.min-filled.ensures)) in
    lt_of_lt_of_le free (slots-le_max c.self.invariant)

pub fill_bucket-requires-clause-open : goal.fill_bucket-requires-clause-open
fill_bucket-requires-clause-open g c = place-open c.self.invariant c.place_in_last-place.ensures.place (let last = c.place_in_last-place.ensures.last in omega arith)

pub fill_bucket-requires-clause-slot : goal.fill_bucket-requires-clause-slot
fill_bucket-requires-clause-slot g c = first_free c.self.invariant c.place_in_last-place.ensures.place

pub fill_bucket-requires-clause-free : goal.fill_bucket-requires-clause-free
fill_bucket-requires-clause-free g c = fits-last c.self.invariant c.place_in_last-place.ensures.place c.place_in_last-place.ensures.last _ (omega (arith, c.min-filled.ensures))

pub fill_bucket-requires-clause-capacity : goal.fill_bucket-requires-clause-capacity
fill_bucket-requires-clause-capacity g c = open_size c.self.invariant c.place_in_last-place.ensures.place

pub invariant_of-self : goal.invariant_of-self
invariant_of-self g c =
    let filled = c.fill_bucket.ensures in
    rw (filled.1, ← filled.2) (IsLaidOut-fill c.self.invariant c.place_in_last-place.ensures.place c.place_in_last-place.ensures.last filled.0 (omega (arith, filled.2, c.min-filled.ensures)))

pub returns-clause-items : goal.returns-clause-items
returns-clause-items g c =
    let filled = c.fill_bucket.ensures in (
      filled.0,
      ap items_of filled.1
          ∙ (items_of-fill c.self.invariant c.place_in_last-place.ensures.place c.place_in_last-place.ensures.last filled.0 (omega (arith, filled.2, c.min-filled.ensures))
          ∙ ap (λ xs. xs ++ filled.0) c.self.view_is),
      filled.2,
      filled.3,
    )

pub returns-then-filled-eq0-clause-filled : goal.returns-then-filled-eq0-clause-filled
returns-then-filled-eq0-clause-filled g c =
    rw (c.if-filled-eq0.true, c.self.invariant.slots_counted, open_is c.self.invariant _ c.self.view_is, len_is c.self.invariant _ c.self.view_is) at c.min-filled.ensures

pub returns-clause-filled : goal.returns-clause-filled
returns-clause-filled g c =
    rw (c.self.invariant.slots_counted, open_is c.self.invariant _ c.self.view_is, len_is c.self.invariant _ c.self.view_is) at c.min-filled.ensures
