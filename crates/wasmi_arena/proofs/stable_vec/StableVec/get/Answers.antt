use Rattle.std.proofs.Common.{arith, sym}
use Rattle.wasmi_arena.proofs.LaidOut.{bucket_there, slot_there, item_read}
use Rattle.std.proofs.lemmas.Option.{slice_get_past}
use Rattle.wasmi_arena.proofs.stable_vec.StableVec.get.Goals as goal

pub unwrap_ref-open-requires : goal.unwrap_ref-open-requires
unwrap_ref-open-requires g c = bucket_there c.self.invariant c.place-bucket.ensures.place c.if-index-self.false c.index-buckets-bucket.is

pub offset_bounds-slice-slot : goal.offset_bounds-slice-slot
offset_bounds-slice-slot g c =
    let there = slot_there c.self.invariant c.place-bucket.ensures.place c.if-index-self.false c.index-buckets-bucket.is c.unwrap_ref-open.ensures c.slice.ensures in
    omega arith

pub bounds-slice-slot : goal.bounds-slice-slot
bounds-slice-slot g c = slot_there c.self.invariant c.place-bucket.ensures.place c.if-index-self.false c.index-buckets-bucket.is c.unwrap_ref-open.ensures c.slice.ensures

pub returns : goal.returns
returns g c = rw (← c.self.view_is) (item_read c.self.invariant c.place-bucket.ensures.place c.if-index-self.false c.index-buckets-bucket.is c.unwrap_ref-open.ensures c.slice.ensures c.index-slice-slot.is)

pub returns-then-index-self : goal.returns-then-index-self
returns-then-index-self g c = sym (slice_get_past _ _ (rw (c.self.invariant.items_counted, c.self.view_is) at c.if-index-self.true))
