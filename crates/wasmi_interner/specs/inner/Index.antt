-- The index of an interner: where the entry of each text stands.
use Rattle.std.specs.Prelude.{◌≡◌, ℕ, ◌<◌, ◌≤◌, ◌⊎◌, ◌^◌, false, List, [], ◌++◌, length, map, replicate, slice_index_or}
use Rattle.std.specs.List.{All, Contains, insert}
use Rattle.std.specs.List.Sorted.{IsStrictlySortedBy}
use Rattle.std.specs.Ordering.{nat_cmp, ordering_then}
use Rattle.std.specs.declared.cmp.Ordering.{Ordering}
use Rattle.std.specs.declared.cmp.Ordering.TheVariants.{Less, Greater}
use Rattle.wasmi_interner.specs.inner.Hash.{hash_of}
use Rattle.wasmi_interner.specs.Interner.{AreDistinctTexts}
use Rattle.wasmi_interner.specs.LenOrder.{len_cmp}
use Rattle.wasmi_interner.specs.inner.RestBlocks.{RestState}
use Rattle.wasmi_interner.specs.inner.HashTable.{HashTableState, IsGap, IsTaken, met_in, one, rest, is_empty_slot, is_marker, with_slot}
use Rattle.wasmi_interner.specs.declared.entry.Entry.{Entry}
use Rattle.wasmi_interner.specs.declared.index.Vacancy.{Vacancy}
use Rattle.wasmi_interner.specs.declared.index.Vacancy.TheVariants.{Gap, Beside, Rest}

-- texts are compared by their hashes, and where these are equal by their length order
abbrev pub hash_cmp : List ℕ → List ℕ → Ordering
hash_cmp x y = ordering_then (nat_cmp (hash_of x) (hash_of y)) (len_cmp x y)

-- the text of an entry
abbrev pub text_at : List (List ℕ) → Entry → List ℕ
text_at texts entry = slice_index_or texts entry.symbol []

-- how an entry compares with a text of this hash
abbrev pub order_with : List (List ℕ) → ℕ → List ℕ → Entry → Ordering
order_with texts hash text entry = ordering_then (nat_cmp entry.hash hash) (len_cmp (text_at texts entry) text)

-- how each of them does
abbrev pub orders_with : List (List ℕ) → ℕ → List ℕ → List Entry → List Ordering
orders_with texts hash text entries = map (order_with texts hash text) entries

-- entries have symbols of these texts
abbrev pub AreSymbolsOf : List (List ℕ) → List Entry → Type 0
AreSymbolsOf texts entries = All (λ entry. entry.symbol < length texts) entries

-- an entry of one of these texts: its symbol beside its hash
pub record IsEntryOf (texts : List (List ℕ)) (entry : Entry) : Type 0 where
  pub within : entry.symbol < length texts
  pub hash : entry.hash ≡ hash_of (text_at texts entry)

-- a slot that is neither empty nor a marker has the entry of one of these texts
abbrev pub IsSlotOf : List (List ℕ) → Entry → Type 0
IsSlotOf texts slot = is_empty_slot slot ≡ false → is_marker slot ≡ false → IsEntryOf texts slot

-- entries of some of these texts, which ascend
pub record IsRestOf (texts : List (List ℕ)) (entries : List Entry) : Type 0 where
  pub each : All (IsEntryOf texts) entries
  pub ascending : IsStrictlySortedBy hash_cmp (map (text_at texts) entries)

-- where the entry of a symbol stands: in the slot that is met for the hash of its text, or in the rest
abbrev pub IsFiled : List (List ℕ) → HashTableState → List Entry → ℕ → Type 0
IsFiled texts table entries symbol =
    let hash = hash_of (slice_index_or texts symbol []) in
    (met_in table hash ≡ one symbol)
    ⊎ ((met_in table hash ≡ rest) × Contains (map (λ entry. entry.symbol) entries) symbol)

-- slots and the rest are an index of these texts
pub record IsIndexOf (texts : List (List ℕ)) (table : HashTableState) (entries : List Entry) : Type 0 where
  pub distinct : AreDistinctTexts texts
  pub slots : All (IsSlotOf texts) table.slots
  pub rest : IsRestOf texts entries
  pub filed : (symbol : ℕ) → symbol < length texts → IsFiled texts table entries symbol

-- where a text of this hash belongs that isn't there
abbrev pub BelongsAt : List (List ℕ) → HashTableState → List Entry → ℕ → List ℕ → Vacancy → Type 0
BelongsAt texts table entries hash text (Gap place) = IsGap table hash place
BelongsAt texts table entries hash text (Beside place) = IsTaken table hash place
BelongsAt texts table entries hash text (Rest rank) =
    (met_in table hash ≡ rest)
    × (rank ≤ length entries)
    × (greater : ℕ) × (orders_with texts hash text entries ≡ replicate rank Less ++ replicate greater Greater)

-- there is room for the entry of such a text at this place
abbrev pub IsReady : List (List ℕ) → HashTableState → RestState → ℕ → List ℕ → Vacancy → Type 0
IsReady texts table others hash text (Gap place) = IsGap table hash place × (length texts < 4294967294)
IsReady texts table others hash text (Beside place) = ⊥
IsReady texts table others hash text (Rest rank) =
    (met_in table hash ≡ rest) × (0 < others.room) × (length others.entries < 2 ^ 32)
    × (rank ≤ length others.entries)
    × (greater : ℕ) × (orders_with texts hash text others.entries ≡ replicate rank Less ++ replicate greater Greater)

-- an entry was put to a place
abbrev pub Inserts : HashTableState → List Entry → Vacancy → Entry → HashTableState → List Entry → Type 0
Inserts table entries (Gap place) entry new others = (new ≡ with_slot table place entry) × (others ≡ entries)
Inserts table entries (Beside place) entry new others = ⊥
Inserts table entries (Rest rank) entry new others = (new ≡ table) × (others ≡ insert entries rank entry)

-- what a table has for hashes and entries, a wider one has
pub record Carries (table : HashTableState) (entries : List Entry) (wider : HashTableState) : Type 0 where
  pub ones : (hash symbol : ℕ) → met_in table hash ≡ one symbol → met_in wider hash ≡ one symbol
  pub rests : All (λ entry. met_in wider entry.hash ≡ rest) entries
  pub slots : (slot : Entry) → is_empty_slot slot ≡ false → is_marker slot ≡ false → Contains wider.slots slot → Contains table.slots slot
