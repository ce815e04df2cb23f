-- What an insertion leaves where the key is new, and which state the map of an entry has.
-- for src/map.rt, src/map/entry.rt, src/map/try_insert.rt
use Rattle.std.proofs.Common.{◌≡◌, Bool, List, ◌∷◌, Option, Some, None, MatchOption, is_some, true≢false, refl, ap, ◌∙◌}
use Rattle.std.specs.HashMap.{hasher_of}
use Rattle.std.specs.HashMap.Entry.{entry_map_ref}
use Rattle.std_collections.specs.Layout.HashMapEntry.{map_with_value}
use Rattle.std.specs.List.Sorted.{IsPermutation}
use Rattle.std.specs.Map.{set_value}
use Rattle.std.proofs.lemmas.Map.Steps.{set_value_same}
use Rattle.std.specs.declared.collections.hash_map.Entry.{Entry as InnerEntry}
use Rattle.std.specs.declared.collections.hash_map.Entry.TheVariants.{Occupied, Vacant}
use Rattle.std.specs.declared.cmp.PartialEq as eq
use Rattle.std.specs.declared.hash.Hash as hash
use Rattle.std.specs.declared.hash.Hasher as hasher
use Rattle.std.specs.declared.hash.BuildHasher as builder
use Rattle.wasmi_map_specs.specs.Maps.{value_at}

pub entries_with_new : {K V : Type 0} (same : K → K → Bool) (before after : List (K × V)) (key : K) (value : V) (old : Option V) → old ≡ value_at same before key
    → MatchOption old (IsPermutation ((key, value) ∷ before) after) (λ _. after ≡ set_value (same key) before value) → value_at same before key ≡ None → IsPermutation ((key, value) ∷ before) after
entries_with_new same before after key value None is entered none = entered
entries_with_new same before after key value (Some other) is entered none = absurd (true≢false (ap is_some (is ∙ none)))

-- a value written into an entry leaves the state
module _ {K V S A H : Type 0} {g : eq.Ghosts K} {h : hash.Ghosts K} {b : builder.Ghosts S H} {w : hasher.Ghosts H} where
  pub state_with_value : (there : InnerEntry K V S A H g h b w) (last : V) → hasher_of (map_with_value there last) ≡ hasher_of (entry_map_ref there).now
  unfolding map_with_value
  state_with_value (Occupied occupied) last = refl
  state_with_value (Vacant vacant) last = refl

-- a value that is put where it is leaves the entries
pub written_again : {K V : Type 0} (same : K → K → Bool) (before after : List (K × V)) (key : K) (value : V) → value_at same before key ≡ Some value
    → MatchOption (value_at same before key) (IsPermutation ((key, value) ∷ before) after) (λ _. after ≡ set_value (same key) before value) → after ≡ before
written_again same before after key value there put =
    (rw there at put) ∙ set_value_same (same key) before value there
