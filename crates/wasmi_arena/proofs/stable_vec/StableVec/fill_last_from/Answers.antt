use Rattle.std.proofs.Common.{arith, ◌≡◌, ◌<◌, ◌++◌, length, ◌∙◌, ap, length-append}
use Rattle.std.proofs.Math.Nat.{lt_of_lt_of_le}
use Rattle.std.proofs.Math.Numerals.{lt_of_le_of_ne}
use Rattle.wasmi_arena.specs.Geometry.{start}
use Rattle.wasmi_arena.specs.inner.Table.{items_of}
use Rattle.wasmi_arena.proofs.Apart.{len_is, open_is}
use Rattle.wasmi_arena.proofs.LaidOut.{first_free, open_size, place-open, length-le_slots, fewest-len, len-le_slots, slots-le_max, free-last, items_of-fill, IsLaidOut-fill}
use Rattle.wasmi_arena.proofs.Doubling.{place_fits}
use Rattle.wasmi_arena.proofs.stable_vec.StableVec.fill_last_from.Goals as goal

pub place_in_last-place-requires-clause-below : goal.place_in_last-place-requires-clause-below
place_in_last-place-requires-clause-below g c =
    let free : c.self.inside.len < c.self.inside.slots = lt_of_le_of_ne (len-le_slots c.self.invariant) c.if-self.false in
    lt_of_lt_of_le free (slots-le_max c.self.invariant)

pub place_in_last-place-requires-clause-free : goal.place_in_last-place-requires-clause-free
place_in_last-place-requires-clause-free g c = lt_of_le_of_ne (len-le_slots c.self.invariant) c.if-self.false

pub fill_bucket_from-filled-requires-clause-slot : goal.fill_bucket_from-filled-requires-clause-slot
fill_bucket_from-filled-requires-clause-slot g c = first_free c.self.invariant c.place_in_last-place.ensures.place

pub fill_bucket_from-filled-requires-clause-open : goal.fill_bucket_from-filled-requires-clause-open
fill_bucket_from-filled-requires-clause-open g c = place-open c.self.invariant c.place_in_last-place.ensures.place (let last = c.place_in_last-place.ensures.last in omega arith)

pub fill_bucket_from-filled-requires-clause-capacity : goal.fill_bucket_from-filled-requires-clause-capacity
fill_bucket_from-filled-requires-clause-capacity g c = open_size c.self.invariant c.place_in_last-place.ensures.place

pub invariant_of-self : goal.invariant_of-self
invariant_of-self g c =
    let filled = c.fill_bucket_from-filled.ensures in
    let free = free-last c.self.invariant c.place_in_last-place.ensures.place c.place_in_last-place.ensures.last _ filled.fits in
    rw (filled.items.1, ← filled.items.2) (IsLaidOut-fill c.self.invariant c.place_in_last-place.ensures.place c.place_in_last-place.ensures.last filled.items.0 (rw filled.items.2 free))

pub returns-clause-items : goal.returns-clause-items
returns-clause-items g c =
    let filled = c.fill_bucket_from-filled.ensures in
    let free = free-last c.self.invariant c.place_in_last-place.ensures.place c.place_in_last-place.ensures.last _ filled.fits in (
      filled.items.0,
      ap items_of filled.items.1
          ∙ (items_of-fill c.self.invariant c.place_in_last-place.ensures.place c.place_in_last-place.ensures.last filled.items.0 (rw filled.items.2 free) ∙ ap (λ xs. xs ++ filled.items.0) c.self.view_is),
      filled.items.3,
    )

pub returns-clause-within : goal.returns-clause-within
unfolding returns-clause-items
returns-clause-within g c =
    let items = returns-clause-items g c in let filled = c.fill_bucket_from-filled.ensures in let added : length items.0 ≡ c.fill_bucket_from-filled.result.0 = filled.items.2 in
    let free = free-last c.self.invariant c.place_in_last-place.ensures.place c.place_in_last-place.ensures.last _ filled.fits in
    let end = c.self.invariant.slots_counted ∙ ap start (open_is c.self.invariant _ c.self.view_is) in
    let counted = len_is c.self.invariant _ c.self.view_is in
    rw items.1 (omega (arith, length-append c.args.self.now items.0, added, free, end, counted, len-le_slots c.self.invariant))

pub overflow_add-self : goal.overflow_add-self
overflow_add-self g c = place_fits c.place_in_last-place.ensures.place _ c.fill_bucket_from-filled.ensures.fits

pub returns-then-self-clause-within : goal.returns-then-self-clause-within
returns-then-self-clause-within g c =
    let enough = length-le_slots c.self.invariant in rw (fewest-len c.self.invariant, c.self.view_is) at enough
