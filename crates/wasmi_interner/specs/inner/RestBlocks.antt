-- Entries by rank in blocks of one width: how the rest of an index is kept.
use Rattle.std.specs.Prelude.{ℕ, ◌≡◌, ◌-◌, ◌*◌, ◌^◌, ◌≤◌, ◌⊎◌, List, [], ◌∷◌, length, ⊤}
use Rattle.std.specs.List.{flat_map}
use Rattle.wasmi_interner.specs.declared.entry.Entry.{Entry}

-- a width is a power of two
abbrev pub IsWidth : ℕ → Type 0
IsWidth width = (power : ℕ) × ((4 ≤ power) × (power ≤ 20)) × (width ≡ 2 ^ power)

-- blocks are few for their width: a sixteenth of it at most, unless it is the greatest
abbrev pub AreFew : ℕ → ℕ → Type 0
AreFew wide blocks = (16 * blocks ≤ wide) ⊎ (wide ≡ 2 ^ 20)

-- the entries by rank, for how many more there is room, and how wide and how many the blocks are
pub record RestState : Type 0 where
  pub entries : List Entry
  pub room : ℕ
  pub width : ℕ
  pub blocks : ℕ

-- the entries of a block, and how many a full one has
pub record BlockState : Type 0 where
  pub entries : List Entry
  pub width : ℕ

-- a block with other entries
abbrev pub with_entries : BlockState → List Entry → BlockState
with_entries block new = record { entries = new; width = block.width }

-- a block of a width that is full
pub record IsFull (wide : ℕ) (block : BlockState) : Type 0 where
  pub width : block.width ≡ wide
  pub full : length block.entries ≡ wide

-- blocks of a width, all full but the last
abbrev pub IsBlocks : ℕ → List BlockState → Type 0
IsBlocks wide [] = ⊤
IsBlocks wide (block ∷ []) = (block.width ≡ wide) × (length block.entries ≤ wide)
IsBlocks wide (block ∷ next ∷ blocks) = IsFull wide block × IsBlocks wide (next ∷ blocks)

-- what they have, in order
abbrev pub entries_in : List BlockState → List Entry
entries_in blocks = flat_map (λ block. block.entries) blocks

-- how many more may go into the last
abbrev pub room_in : List BlockState → ℕ
room_in [] = 0
room_in (block ∷ []) = block.width - length block.entries
room_in (block ∷ next ∷ blocks) = room_in (next ∷ blocks)
