-- What the slots are once a `&mut` to their items has ended.
use Rattle.std.specs.Prelude.{ℕ, List, length, slice_set}
use Rattle.std.specs.Borrow.{Fml, RattleType, MutBor, Array, Lends}
use Rattle.std.specs.List.{refill}
use Rattle.wasmi_arena.specs.declared.raw.block.Slots.{Slots}
use Rattle.wasmi_arena.specs.contracts.raw.block.Slots.{the_row}
use Rattle.wasmi_arena.specs.inner.Slots.{with_items}

-- their items are what was written last through the reference
abbrev pub lends_items : (R : RattleType) → MutBor (Slots R.Denot) → MutBor (List R.Denot) → Fml
lends_items R slots items =
    Lends (the_row R) (Array R 0) slots items (λ last. with_items slots.now (refill (length slots.now.items) slots.now.items last))

-- the item in that slot is what was written last through the reference
abbrev pub lends_item : (R : RattleType) → MutBor (Slots R.Denot) → ℕ → MutBor R.Denot → Fml
lends_item R slots slot item = Lends (the_row R) R slots item (λ last. with_items slots.now (slice_set slots.now.items slot last))
