-- The hash table of an interner's index: what a search of its slots for a hash meets.
use Rattle.std.specs.Prelude.{ℕ, zero, suc, ◌≡◌, ◌+◌, ◌⊎◌, ◌==◌, ◌<◌, ◌/◌, ◌^◌, Bool, true, false, cond, List, [], ◌∷◌, length, drop, nat_le, Some, slice_get, slice_set}
use Rattle.wasmi_interner.specs.declared.entry.Entry.{Entry}
use Rattle.wasmi_interner.specs.declared.hash_table.Met.{Met}
use Rattle.wasmi_interner.specs.declared.hash_table.Met.TheVariants.{Gap, One, Rest}

-- slots, and by how many bits a hash is shifted to its home among them
pub record HashTableState : Type 0 where
  pub slots : List Entry
  pub shift : ℕ

-- the symbol of an empty slot,
abbrev pub is_empty_slot : Entry → Bool
is_empty_slot slot = slot.symbol == 4294967295

-- and that of a marker, which stands for texts that are in the rest
abbrev pub is_marker : Entry → Bool
is_marker slot = slot.symbol == 4294967294

-- what is met for a hash: an empty slot, or one with the hash and a symbol, or else what is wanted is in the rest
pub data Meeting : Type 0 where
  gap : Meeting
  one : ℕ → Meeting
  rest : Meeting

-- what a slot with the hash says
abbrev pub says : Entry → Meeting
says slot = cond (is_marker slot) rest (one slot.symbol)

-- what is met among so many of these slots
unfoldable pub met : ℕ → List Entry → ℕ → Meeting
met zero slots hash = rest
met (suc n) [] hash = rest
met (suc n) (slot ∷ slots) hash = cond (is_empty_slot slot) gap (cond (slot.hash == hash) (says slot) (met n slots hash))

-- what is met from the home of a hash on
unfoldable pub met_from : ℕ → List Entry → ℕ → Meeting
met_from home slots hash = cond (nat_le (home + 32) (length slots)) (met 32 (drop home slots) hash) rest

abbrev pub met_in : HashTableState → ℕ → Meeting
met_in table hash = met_from (hash / 2 ^ table.shift) table.slots hash

-- the table with another entry in a slot
abbrev pub with_slot : HashTableState → ℕ → Entry → HashTableState
with_slot table place slot = record { slots = slice_set table.slots place slot; shift = table.shift }

-- this slot is the one that is met for a hash, and empty
pub record IsGap (table : HashTableState) (hash place : ℕ) : Type 0 where
  pub within : place < length table.slots
  pub now : met_in table hash ≡ gap
  -- an entry that is put there is met,
  pub filled : (slot : Entry) → slot.hash ≡ hash → is_empty_slot slot ≡ false → met_in (with_slot table place slot) hash ≡ says slot
  -- and what stands for other hashes stands for them then
  pub others : (slot : Entry) (other : ℕ) → (met_in table other ≡ gap → ⊥) → met_in (with_slot table place slot) other ≡ met_in table other

-- this slot is the one that is met for a hash, and has a symbol
pub record IsTaken (table : HashTableState) (hash place : ℕ) : Type 0 where
  pub within : place < length table.slots
  pub symbol : ℕ
  pub there : slice_get table.slots place ≡ Some (record { hash = hash; symbol = symbol })
  pub full : is_empty_slot (record { hash = hash; symbol = symbol }) ≡ false
  pub plain : is_marker (record { hash = hash; symbol = symbol }) ≡ false
  pub now : met_in table hash ≡ one symbol
  -- a marker that is put there is met,
  pub marked : (slot : Entry) → slot.hash ≡ hash → is_marker slot ≡ true → met_in (with_slot table place slot) hash ≡ rest
  -- and what stands for other hashes stands for them then
  pub others : (slot : Entry) (other : ℕ) → slot.hash ≡ hash → is_marker slot ≡ true → (other ≡ hash → ⊥) → met_in (with_slot table place slot) other ≡ met_in table other

-- what `meet` says of a hash
abbrev pub Meets : HashTableState → ℕ → Met → Type 0
Meets table hash (Gap place) = IsGap table hash place
Meets table hash (One place) = IsTaken table hash place
Meets table hash Rest = met_in table hash ≡ rest

-- A slot was put among others, so that it is met: what was met for other hashes is met, and no other slots are there.
pub record Puts (old : HashTableState) (slot : Entry) (new : HashTableState) : Type 0 where
  pub met : met_in new slot.hash ≡ says slot
  pub others : (hash : ℕ) → (met_in old hash ≡ gap → ⊥) → met_in new hash ≡ met_in old hash
  pub same : (new ≡ old) ⊎ ((place : ℕ) × (new ≡ with_slot old place slot))
