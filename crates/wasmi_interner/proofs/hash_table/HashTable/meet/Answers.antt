use Rattle.std.proofs.Common.{◌≡◌, ◌+◌, ◌/◌, ◌^◌, ◌<◌, ◌∙◌, ap, subst, sym, refl, arith, inl, inr, length}
use Rattle.wasmi_interner.specs.inner.HashTable.{HashTableState, IsGap, IsTaken, met_in, rest}
use Rattle.wasmi_interner.proofs.Meeting.{past_end, none_met, is_gap, is_marked, is_taken}
use Rattle.wasmi_interner.proofs.hash_table.HashTable.meet.Goals as goal

pub returns-in_default : goal.returns-in_default
returns-in_default g c =
    let items = c.self.inside.slots.items in let home = c.args.hash / 2 ^ c.self.inside.shift in
    let short : length items < home + 32 = elim (c.in_default.ensures.lookup.0) [
      | inl back ↦ absurd (omega (arith, back))
      | inr end ↦ omega (arith, end, ap length c.deref.ensures.value)
    ] in
    subst (λ (table : HashTableState). met_in table c.args.hash ≡ rest) c.self.view_is (past_end items home c.args.hash short)

pub returns-then-is_empty : goal.returns-then-is_empty
returns-then-is_empty g c =
    let table : HashTableState = record { slots = c.self.inside.slots.items; shift = c.self.inside.shift } in let hash = c.args.hash in
    let part = c.in-Some.ensures.lookup.0 in let place = c.loop-place.place in
    subst (λ (t : HashTableState). IsGap t hash (hash / 2 ^ table.shift + place)) c.self.view_is
    (is_gap table hash (hash / 2 ^ table.shift) c.deref.result.now c.in-Some.window.now refl c.deref.ensures.value part.1 part.2
    place c.index-window-place.result (omega (arith, part.3, c.loop-place-test.true)) c.loop-place.invariant c.index-window-place.is (sym c.is_empty.ensures ∙ c.if-is_empty.true))

pub returns-then-is_marker : goal.returns-then-is_marker
returns-then-is_marker g c =
    let table : HashTableState = record { slots = c.self.inside.slots.items; shift = c.self.inside.shift } in let hash = c.args.hash in
    let part = c.in-Some.ensures.lookup.0 in let place = c.loop-place.place in
    subst (λ (t : HashTableState). met_in t hash ≡ rest) c.self.view_is
    (is_marked table hash (hash / 2 ^ table.shift) c.deref.result.now c.in-Some.window.now refl c.deref.ensures.value part.1 part.2
    place c.index-window-place.result (omega (arith, part.3, c.loop-place-test.true)) c.loop-place.invariant c.index-window-place.is
    (sym c.is_empty.ensures ∙ c.if-is_empty.false) c.if-slot-hash.true (sym c.is_marker.ensures ∙ c.if-is_marker.true))

pub returns-else-is_marker : goal.returns-else-is_marker
returns-else-is_marker g c =
    let table : HashTableState = record { slots = c.self.inside.slots.items; shift = c.self.inside.shift } in let hash = c.args.hash in
    let part = c.in-Some.ensures.lookup.0 in let place = c.loop-place.place in
    subst (λ (t : HashTableState). IsTaken t hash (hash / 2 ^ table.shift + place)) c.self.view_is
    (is_taken table hash (hash / 2 ^ table.shift) c.deref.result.now c.in-Some.window.now refl c.deref.ensures.value part.1 part.2
    place c.index-window-place.result (omega (arith, part.3, c.loop-place-test.true)) c.loop-place.invariant c.index-window-place.is
    (sym c.is_empty.ensures ∙ c.if-is_empty.false) c.if-slot-hash.true (sym c.is_marker.ensures ∙ c.if-is_marker.false))

pub returns : goal.returns
returns g c =
    let table : HashTableState = record { slots = c.self.inside.slots.items; shift = c.self.inside.shift } in let hash = c.args.hash in
    let part = c.in-Some.ensures.lookup.0 in let place = c.loop-place.place in
    subst (λ (t : HashTableState). met_in t hash ≡ rest) c.self.view_is
    (none_met table hash (hash / 2 ^ table.shift) c.deref.result.now c.in-Some.window.now refl c.deref.ensures.value part.1 part.2
    place (omega (arith, part.3, c.loop-place-test.false)) c.loop-place.invariant)
