-- What a hashed map is once a `&mut` to a value of it, or to all of them, has ended.
use Rattle.std.specs.Prelude.{◌≡◌, ℕ, List, Option, String, Vec, vec_items}
use Rattle.std.specs.Cmp.Lexicographic.{pointwise}
use Rattle.std.specs.Borrow.{Fml, GName, RattleType, MutBor, Array, LendsSo, follows}
use Rattle.std.specs.HashMap.Lent.{HashMembers}
use Rattle.std.specs.Hash as fed
use Rattle.std.specs.Map.{set_value}
use Rattle.std.specs.Str.{bytes_eq}
use Rattle.std.specs.String.{string_bytes, string_eq}
use Rattle.std.specs.contracts.string.String.{the_row as Text}
use Rattle.std.specs.contracts.vec.Vec.{the_row as Items}
use Rattle.wasmi_map_specs.specs.Seen.{is_seen_as}
use Rattle.wasmi_map_specs.specs.Values.{with_values}
use Rattle.std.specs.declared.alloc.Allocator as alloc
use Rattle.std.specs.declared.hash.Hasher as hasher
use Rattle.std.specs.declared.hash.BuildHasher as builder
use Rattle.wasmi_hashed.specs.Entries.{Entries}
use Rattle.wasmi_hashed.specs.contracts.map.Map.{the_row}

module _ (K V S A H : RattleType) (g : HashMembers K.Denot) (b : builder.Ghosts S.Denot H.Denot) (w : hasher.Ghosts H.Denot) (heap : alloc.Ghosts A.Denot) where
  -- the value under that key is what was written last through the reference, where there is one, and
  -- nothing else changes.
  -- `*map.get_mut(&2)? = c` on (1, a), (2, b): (1, a), (2, c).
  abbrev pub lends_get : MutBor (Entries K.Denot V.Denot S.Denot) → K.Denot → Option (MutBor V.Denot) → Fml
  lends_get map key value = LendsSo (the_row K V S A H (record { eq = g.eq }) (record { hash_input = g.hash_input }) b w heap) V map value
      (λ new last. new ≡ record map.now { entries = set_value (g.eq key) map.now.entries last }) (λ new. new ≡ map.now)

  -- the values are those written last through the loan of this name, and nothing else changes
  abbrev pub lends_values : MutBor (Entries K.Denot V.Denot S.Denot) → GName → Fml
  lends_values map name = follows (the_row K V S A H (record { eq = g.eq }) (record { hash_input = g.hash_input }) b w heap) (Array V 0) map.ghost_name name
      (λ values. record map.now { entries = with_values map.now.entries values })

module _ (B V S A H : RattleType) (heap_of_text : alloc.Ghosts B.Denot) (b : builder.Ghosts S.Denot H.Denot) (w : hasher.Ghosts H.Denot) (heap : alloc.Ghosts A.Denot) where
  -- the row of a map with `String` keys
  abbrev pub text_map_row : RattleType
  text_map_row = the_row (Text B heap_of_text) V S A H (record { eq = string_eq }) (record { hash_input = λ k. fed.str (string_bytes k) }) b w heap

  -- the same under the key with that text
  abbrev pub lends_text : MutBor (Entries (String B.Denot) V.Denot S.Denot) → List ℕ → Option (MutBor V.Denot) → Fml
  lends_text map text value = LendsSo text_map_row V map value
      (λ new last. new ≡ record map.now { entries = set_value (is_seen_as bytes_eq string_bytes text) map.now.entries last }) (λ new. new ≡ map.now)

module _ (T B V S A H : RattleType) (g : HashMembers T.Denot) (heap_of_key : alloc.Ghosts B.Denot) (b : builder.Ghosts S.Denot H.Denot) (w : hasher.Ghosts H.Denot) (heap : alloc.Ghosts A.Denot) where
  -- the row of a map whose keys are vectors
  abbrev pub items_map_row : RattleType
  items_map_row = the_row (Items T B heap_of_key) V S A H (record { eq = λ x y. pointwise g.eq (vec_items x) (vec_items y) }) (record { hash_input = λ k. fed.slice g.hash_input (vec_items k) }) b w heap

  -- the same under the key of those items
  abbrev pub lends_items : MutBor (Entries (Vec T.Denot B.Denot) V.Denot S.Denot) → List T.Denot → Option (MutBor V.Denot) → Fml
  lends_items map items value = LendsSo items_map_row V map value
      (λ new last. new ≡ record map.now { entries = set_value (is_seen_as (pointwise g.eq) vec_items items) map.now.entries last }) (λ new. new ≡ map.now)
