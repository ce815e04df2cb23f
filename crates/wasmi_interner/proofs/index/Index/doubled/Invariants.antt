use Rattle.std.proofs.Common.{◌≡◌, ◌<◌, ℕ, false, length, get_or}
use Rattle.std.specs.List.{Contains}
use Rattle.wasmi_interner.specs.inner.HashTable.{is_empty_slot, is_marker, met_in, rest, says}
use Rattle.wasmi_interner.specs.declared.entry.Entry.{Entry}
use Rattle.wasmi_interner.proofs.index.Index.doubled.Given as goal

-- the slots so far are met among the new ones, where nothing else is
abbrev pub invariant-loop-place : goal.invariant-loop-place
invariant-loop-place g l = record {
  met : (k : ℕ) (d : Entry) → k < l.place → is_empty_slot (get_or l.self.slots.slots k d) ≡ false → met_in l.slots (get_or l.self.slots.slots k d).hash ≡ says (get_or l.self.slots.slots k d);
  within : (slot : Entry) → is_empty_slot slot ≡ false → is_marker slot ≡ false → Contains l.slots.slots slot → Contains l.self.slots.slots slot;
}

-- all are, and markers for the entries so far
abbrev pub invariant-loop-rank : goal.invariant-loop-rank
invariant-loop-rank g l = record {
  met : (k : ℕ) (d : Entry) → k < length l.self.slots.slots → is_empty_slot (get_or l.self.slots.slots k d) ≡ false → met_in l.slots (get_or l.self.slots.slots k d).hash ≡ says (get_or l.self.slots.slots k d);
  within : (slot : Entry) → is_empty_slot slot ≡ false → is_marker slot ≡ false → Contains l.slots.slots slot → Contains l.self.slots.slots slot;
  marked : (k : ℕ) (d : Entry) → k < l.rank → met_in l.slots (get_or l.self.rest.entries k d).hash ≡ rest;
}
