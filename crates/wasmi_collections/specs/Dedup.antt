-- What a deduplicating arena is, and what its calls say of it: two lists of one length.
use Rattle.std.specs.Prelude.{◌≡◌, ◌≢◌, ℕ, ◌+◌, ◌<◌, ◌≤◌, ◌==◌, ◌⊎◌, Bool, List, [], ◌∷◌, ◌++◌, length, Option, Some, None, option_map, filter_map, find, position, slice_get, slice_set, IsPermutation}
use Rattle.std.specs.List.{range_with_len, IsDistinct}
use Rattle.wasmi_arena.specs.Growth.{GivesAll, GivesUpTo}
use Rattle.wasmi_arena.specs.Keys.{Keys}
use Rattle.wasmi_arena.specs.declared.error.ArenaError.{ArenaError}
use Rattle.wasmi_arena.specs.declared.error.ArenaError.TheVariants.{OutOfSystemMemory, KeyOutOfBounds, NotEnoughKeys, AliasingPairAccess, DuplicateItem}
use Rattle.wasmi_map_specs.specs.Maps.{value_at}

-- the values as they were handed in, and the items that stand there now.
-- x handed in, then y written under its key: the value handed in is x, the item y.
pub record DedupState (T : Type 0) : Type 0 where
  pub handed : List T
  pub items : List T

-- An arena has one type of keys.
module _ {K T : Type 0} (keys : Keys K) where
  -- each value beside the key of its position, where the first stands at `from`
  abbrev pub keyed_from : ℕ → List T → List (T × K)
  keyed_from from [] = []
  keyed_from from (x ∷ xs) = (x, keys.key from) ∷ keyed_from (from + 1) xs

  -- each value handed in beside its key: the entries of the index.
  -- Of x, y: (x, 0), (y, 1).
  abbrev pub keyed : List T → List (T × K)
  keyed handed = keyed_from 0 handed

  -- the value of an index that has the key of this number, if there is one
  abbrev pub value_numbered : List (T × K) → ℕ → Option T
  value_numbered index n = option_map (λ e. e.0) (find (λ e. keys.number e.1 == n) index)

  -- the values of an index in the order of their keys
  abbrev pub in_order : List (T × K) → List T
  in_order index = filter_map (value_numbered index) (range_with_len 0 (length index))

  -- an item makes way for another, and is handed back. No value handed in changes
  pub record PutsItem (old : DedupState T) (key : K) (item there : T) (new : DedupState T) : Type 0 where
    pub there_is : slice_get old.items (keys.number key) ≡ Some there
    pub handed_are : new.handed ≡ old.handed
    pub items_are : new.items ≡ slice_set old.items (keys.number key) item

  -- `eq` says which values are equal
  module _ (eq : T → T → Bool) where
    -- what an index holds: the values, all distinct, each beside the key of its position
    pub record IsIndex (handed : List T) (index : List (T × K)) : Type 0 where
      pub distinct : IsDistinct eq handed
      pub entries_are : IsPermutation (keyed handed) index
      pub finds : (value : T) → value_at eq index value ≡ option_map keys.key (position (eq value) handed)

    -- a value that isn't among those handed in goes to the end of them, and a clone of it to the end of
    -- the items, under the key of that position. `clones` says which are clones of which
    pub record AddsValue (clones : T → T → Type 0) (old : DedupState T) (value : T) (key : K)
        (new : DedupState T) : Type 0 where
      pub absent : position (eq value) old.handed ≡ None
      pub has_key : length old.handed < keys.count
      pub key_is : key ≡ keys.key (length old.handed)
      pub handed_are : new.handed ≡ old.handed ++ value ∷ []
      pub items_are : (item : T) × clones value item × (new.items ≡ old.items ++ item ∷ [])

    -- a value that was handed in before has the key of that one, and nothing changes
    abbrev pub FindsValue : DedupState T → T → K → DedupState T → Type 0
    FindsValue old value key new =
        (p : ℕ) × (position (eq value) old.handed ≡ Some p) × (key ≡ keys.key p) × (new ≡ old)

    -- why a value is refused: it is new, and either there is no key for one more, or there is but no memory
    abbrev pub RefusesValue : DedupState T → T → ArenaError → Type 0
    RefusesValue old value NotEnoughKeys =
        (position (eq value) old.handed ≡ None) × (keys.count ≤ length old.handed)
    RefusesValue old value OutOfSystemMemory =
        (position (eq value) old.handed ≡ None) × (length old.handed < keys.count)
    RefusesValue old value KeyOutOfBounds = ⊥
    RefusesValue old value AliasingPairAccess = ⊥
    RefusesValue old value DuplicateItem = ⊥

    -- a value that isn't among those handed in takes the place of the one that was handed in under a key,
    -- and a clone of it that of the item, which is handed back.
    -- z under key 0 of x, y in both lists: then z, y in both, and x is handed back.
    pub record MovesKey (clones : T → T → Type 0) (old : DedupState T) (key : K) (value there : T)
        (new : DedupState T) : Type 0 where
      pub absent : position (eq value) old.handed ≡ None
      pub there_is : slice_get old.items (keys.number key) ≡ Some there
      pub handed_are : new.handed ≡ slice_set old.handed (keys.number key) value
      pub items_are : (item : T) × clones value item × (new.items ≡ slice_set old.items (keys.number key) item)

    -- a value was handed in under a key of another number
    abbrev pub HasOtherKey : DedupState T → K → T → Type 0
    HasOtherKey old key value =
        (p : ℕ) × (position (eq value) old.handed ≡ Some p) × (p ≢ keys.number key)

    -- why a value doesn't come in the place of the one under a key: the key reads nothing; or it reads an
    -- item, and the value was handed in under another key; or it is new, and there is no memory
    abbrev pub RefusesReplace : DedupState T → K → T → ArenaError → Type 0
    RefusesReplace old key value KeyOutOfBounds = length old.items ≤ keys.number key
    RefusesReplace old key value DuplicateItem =
        (keys.number key < length old.items) × HasOtherKey old key value
    RefusesReplace old key value OutOfSystemMemory =
        (keys.number key < length old.items) × (position (eq value) old.handed ≡ None)
    RefusesReplace old key value NotEnoughKeys = ⊥
    RefusesReplace old key value AliasingPairAccess = ⊥

    module _ (clones : T → T → Type 0) where
      -- a key is the value's afterwards. One that was handed in under that very key becomes the item, and no
      -- value handed in changes
      abbrev pub ReplacesValue : DedupState T → K → T → T → DedupState T → Type 0
      ReplacesValue old key value there new =
          ((position (eq value) old.handed ≡ Some (keys.number key)) × PutsItem old key value there new)
          ⊎ MovesKey clones old key value there new

      -- a value has a key afterwards
      abbrev pub AllocatesValue : DedupState T → T → K → DedupState T → Type 0
      AllocatesValue old value key new = FindsValue old value key new ⊎ AddsValue clones old value key new

      -- all these values have, one after another.
      -- From nothing, a, b, a leave a, b in both lists.
      abbrev pub AllocatesEach : DedupState T → List T → DedupState T → Type 0
      AllocatesEach old [] new = new ≡ old
      AllocatesEach old (value ∷ values) new =
          (key : K) × (next : DedupState T) × AllocatesValue old value key next × AllocatesEach next values new

      -- what is made an iterator by `becomes`, which then steps by `steps`
      module _ {U S : Type 0} (becomes : U → S → Type 0) (steps : S → Option T → S → Type 0) where
        -- all its values have a key afterwards
        abbrev pub TakesAll : U → DedupState T → DedupState T → Type 0
        TakesAll iter old new = GivesAll becomes steps (λ values. AllocatesEach old values new) iter

        -- its values have, up to one that was refused
        abbrev pub TakesUntilRefused : U → DedupState T → ArenaError → Type 0
        TakesUntilRefused iter old error =
            GivesUpTo becomes steps
            (λ values value. (held : DedupState T) × AllocatesEach old values held × RefusesValue held value error)
            iter
