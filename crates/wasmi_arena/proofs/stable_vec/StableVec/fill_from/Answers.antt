use Rattle.std.proofs.Common.{arith, ◌≡◌, ℕ, ◌+◌, ◌-◌, ◌<◌, ◌≤◌, List, length, refl, ap, sym, subst, ◌∙◌, min}
use Rattle.wasmi_arena.specs.Bucket.{Bucket}
use Rattle.wasmi_arena.specs.Geometry.{size, max_len, fewest}
use Rattle.wasmi_arena.specs.Growth.{AppendsMany}
use Rattle.wasmi_arena.proofs.Doubling.{size_pos}
use Rattle.wasmi_arena.proofs.Growth.{many_more, many_length, many_moved}
use Rattle.wasmi_arena.proofs.Apart.{apart_later, apart_below, apart_first, apart_taken, apart_rest, room_next, room_filled}
use Rattle.wasmi_arena.proofs.stable_vec.StableVec.fill_from.Goals as goal

-- as long as some are left, there is place for them
left_below : {T : Type 0} (P : T → Type 0) {amount left : ℕ} (old : List T) {new : List T} → AppendsMany P (amount - left) old new → 0 < left → left ≤ amount → length new < length old + amount
left_below P {amount} {left} old {new} so_far some within = omega (arith, many_length P (amount - left) old new so_far)

-- so many go in at once
filled_some : {left capacity filled : ℕ} (n : ℕ) → 0 < left → capacity ≡ size (fewest n) → filled ≡ min left capacity → (0 < filled) × (filled ≤ size (fewest n)) × (filled ≤ left)
filled_some {left} {capacity} {filled} n some is least = (omega (arith, is, least, size_pos (fewest n)), omega (arith, is, least), omega (arith, least))

pub loop-left-init : goal.loop-left-init
loop-left-init g c =
    let first = c.fill_last.ensures in let counted = many_length g.T.Default.is_default _ _ _ first.items in
    let all : c.args.amount - (c.args.amount - c.fill_last.result) ≡ c.fill_last.result = omega (arith, first.filled) in
    record {
      within = omega arith;
      items = subst (λ (n : ℕ). AppendsMany g.T.Default.is_default n c.args.self.now c.fill_last.new.self) (sym all) first.items;
      apart = apart_later c.requires.apart c.requires.below (omega (arith, counted)) (omega (arith, counted, first.filled));
      full = λ some. rw counted (room_filled _ _ (let few = c.requires.below in omega arith) (omega (arith, first.filled)));
    }

pub take_bucket-next-requires-clause-in_table : goal.take_bucket-next-requires-clause-in_table
take_bucket-next-requires-clause-in_table g c =
    let inv = c.loop-left.invariant in let more = left_below g.T.Default.is_default _ inv.items c.loop-left-test.true inv.within in
    rw c.open_buckets.ensures (apart_below inv.apart c.requires.below more (inv.full c.loop-left-test.true))

pub take_bucket-next-requires-clause-open : goal.take_bucket-next-requires-clause-open
take_bucket-next-requires-clause-open g c =
    let inv = c.loop-left.invariant in let more = left_below g.T.Default.is_default _ inv.items c.loop-left-test.true inv.within in
    rw (c.open_buckets.ensures, apart_first inv.apart c.requires.below more (inv.full c.loop-left-test.true)) refl

pub push_defaults-requires-clause-slot : goal.push_defaults-requires-clause-slot
push_defaults-requires-clause-slot g c =
    let inv = c.loop-left.invariant in let more = left_below g.T.Default.is_default _ inv.items c.loop-left-test.true inv.within in
    let first = apart_taken inv.apart c.requires.below more (inv.full c.loop-left-test.true) c.open_buckets.ensures c.take_bucket-next.ensures.taken in
    rw first refl

pub append_bucket-requires : goal.append_bucket-requires
append_bucket-requires g c =
    let inv = c.loop-left.invariant in let more = left_below g.T.Default.is_default _ inv.items c.loop-left-test.true inv.within in
    let first = apart_taken inv.apart c.requires.below more (inv.full c.loop-left-test.true) c.open_buckets.ensures c.take_bucket-next.ensures.taken in
    let filled = filled_some _ c.loop-left-test.true (c.capacity.ensures ∙ ap (λ (b : Bucket _). b.capacity) first) c.min-filled.ensures in
    let few = c.requires.below in let counted = many_length g.T.Default.is_default _ _ _ inv.items in
    let empty : length c.take_bucket-next.result.items ≡ 0 = ap (λ (b : Bucket _). length b.items) first in
    let counted_next : c.min-filled.result ≡ length c.push_defaults.new.self.items = omega (arith, empty, many_length g.T.Default.is_default _ _ _ c.push_defaults.ensures.items) in
    let sized = c.push_defaults.ensures.capacity ∙ ap (λ (b : Bucket _). b.capacity) first in
    (assumption, (inv.full c.loop-left-test.true, (omega (arith, counted, filled.2, inv.within), (filled.0, (filled.1, (counted_next, sized))))))

pub loop-left-smaller : goal.loop-left-smaller
loop-left-smaller g c =
    let inv = c.loop-left.invariant in let more = left_below g.T.Default.is_default _ inv.items c.loop-left-test.true inv.within in
    let first = apart_taken inv.apart c.requires.below more (inv.full c.loop-left-test.true) c.open_buckets.ensures c.take_bucket-next.ensures.taken in
    let filled = filled_some _ c.loop-left-test.true (c.capacity.ensures ∙ ap (λ (b : Bucket _). b.capacity) first) c.min-filled.ensures in
    let some = c.loop-left-test.true in
    omega (arith, filled.0)

pub loop-left-preserved : goal.loop-left-preserved
loop-left-preserved g c =
    let inv = c.loop-left.invariant in let more = left_below g.T.Default.is_default _ inv.items c.loop-left-test.true inv.within in
    let few = c.requires.below in let none = inv.full c.loop-left-test.true in let below : length c.loop-left.self < max_len = omega (arith, more) in
    let first = apart_taken inv.apart c.requires.below more none c.open_buckets.ensures c.take_bucket-next.ensures.taken in
    let capacity = c.capacity.ensures ∙ ap (λ (b : Bucket _). b.capacity) first in
    let filled = filled_some _ c.loop-left-test.true capacity c.min-filled.ensures in
    let all : c.args.amount - c.loop-left.left + c.min-filled.result ≡ c.args.amount - (c.loop-left.left - c.min-filled.result) = omega (arith, filled.2, inv.within) in
    let whole : 0 < c.loop-left.left - c.min-filled.result → c.min-filled.result ≡ size (fewest (length c.loop-left.self)) = (λ left. omega (arith, capacity, c.min-filled.ensures)) in
    let moved = many_moved g.T.Default.is_default c.min-filled.result _ c.append_bucket.ensures (subst (λ (b : Bucket _). AppendsMany g.T.Default.is_default c.min-filled.result b.items c.push_defaults.new.self.items) first c.push_defaults.ensures.items) in
    let counted = many_length g.T.Default.is_default _ _ _ moved in
    record {
      within = let within = inv.within in omega arith;
      items = subst (λ (n : ℕ). AppendsMany g.T.Default.is_default n c.args.self.now c.append_bucket.new.self) all (many_more g.T.Default.is_default _ inv.items moved);
      apart = rw (c.take_bucket-next.ensures.rest, c.open_buckets.ensures, counted) (apart_rest inv.apart c.requires.below more none c.min-filled.result filled.0 filled.1);
      full = λ left. rw counted (room_next _ _ below none filled.0 filled.1 (whole left));
    }
