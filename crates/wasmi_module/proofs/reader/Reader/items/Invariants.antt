use Rattle.std.proofs.Common.{◌≡◌, ℕ, ◌≤◌, List, length, map, take, drop, All}
use Rattle.wasmi_module.specs.Texts.{Each}
use Rattle.wasmi_module.specs.inner.Reading.{Reads}
use Rattle.wasmi_module.proofs.reader.Reader.items.Given as goal

-- so many items were read, from the first byte on, and no others stand there
abbrev pub invariant-loop : goal.invariant-loop
invariant-loop g l = record {
  len : length l.items.items ≡ l.counter;
  each : Reads (Each g.T.Item.writes (map g.T.Item.plain l.items.items)) l.fn.self l.self;
  valid : All (g.T.Item.valid l.counts) (map g.T.Item.plain l.items.items);
  only : (xs : List g.T.Item.Plain) (after : List ℕ) → l.counter ≤ length xs → Reads (Each g.T.Item.writes xs) l.fn.self after
      → (take l.counter xs ≡ map g.T.Item.plain l.items.items) × Reads (Each g.T.Item.writes (drop l.counter xs)) l.self after;
}
