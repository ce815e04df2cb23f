use Rattle.std.proofs.Common.{◌∙◌, refl, sym}
use Rattle.wasmi_arena.proofs.LaidOut.{index-lt_len, index-lt_max, slot_filled, slice_get-slot, items_of-written, IsLaidOut-written}
use Rattle.wasmi_arena.proofs.Sizes.{table_small}
use Rattle.wasmi_arena.proofs.stable_vec.StableVec.item_mut.Goals as goal

pub slot_mut-requires : goal.slot_mut-requires
slot_mut-requires g c =
    rw (← c.bucket_mut-found.ensures.value) (slot_filled c.self.invariant c.place-bucket.ensures.place (index-lt_len c.self.invariant (rw c.self.view_is c.requires)))

pub invariant_of-self-lent : goal.invariant_of-self-lent
invariant_of-self-lent g c = λ w.
    rw (← c.bucket_mut-found.ensures.value) (IsLaidOut-written c.self.invariant c.place-bucket.ensures.place (index-lt_len c.self.invariant (rw c.self.view_is c.requires)) w)

pub returns : goal.returns
returns g c =
    let below = index-lt_len c.self.invariant (rw c.self.view_is c.requires) in
    let written = items_of-written c.self.invariant c.place-bucket.ensures.place below in
    let read = slice_get-slot c.self.invariant c.place-bucket.ensures.place below in (
      (refl, λ w. rw (← c.bucket_mut-found.ensures.value, ← c.self.view_is) (written w)),
      record {
        writes_back = tt;
        value = rw (← c.self.view_is) (sym read ∙ rw c.bucket_mut-found.ensures.value c.slot_mut.ensures.value);
      },
    )

pub place-bucket-requires : goal.place-bucket-requires
place-bucket-requires g c = index-lt_max c.self.invariant (rw c.self.view_is c.requires)

pub bucket_mut-found-requires : goal.bucket_mut-found-requires
bucket_mut-found-requires g c = (table_small g.row.T g.row.A g.A.Allocator assumption, c.place-bucket.ensures.place.bucket_exists)
