-- What an ordered map is once a `&mut` to a value of it has ended.
use Rattle.std.specs.Prelude.{◌≡◌, ℕ, List, Option, Some, String, Vec, vec_items}
use Rattle.std.specs.Borrow.{Fml, GName, RattleType, MutBor, LendsSo, follows}
use Rattle.wasmi_map_specs.specs.Values.{with_values}
use Rattle.std.specs.Map.{set_value, values_of}
use Rattle.std.specs.Cmp.Lexicographic.{pointwise, slice_cmp, slice_partial_cmp}
use Rattle.std.specs.Hash as fed
use Rattle.std.specs.Ordering.{eq_by_cmp, nat_cmp}
use Rattle.std.specs.String.{string_bytes, string_cmp, string_eq}
use Rattle.std.specs.contracts.string.String.{the_row as Text}
use Rattle.std.specs.contracts.vec.Vec.{the_row as Items}
use Rattle.wasmi_map_specs.specs.Seen.{is_seen_as}
use Rattle.std.specs.BTreeMap.Lent.{OrdMembers}
use Rattle.std.specs.declared.alloc.Allocator as alloc
use Rattle.std.specs.declared.hash.Hash as hash
use Rattle.wasmi_ordered.specs.contracts.map.Map.{the_row}

module _ (K V A : RattleType) (h : hash.Ghosts K.Denot) (g : OrdMembers K.Denot) (heap : alloc.Ghosts A.Denot) where
  -- the value under that key is what was written last through the reference, where there is one, and
  -- nothing else changes.
  -- `*map.get_mut(&2)? = c` on (1, a), (2, b): (1, a), (2, c).
  abbrev pub lends_get : MutBor (List (K.Denot × V.Denot)) → K.Denot → Option (MutBor V.Denot) → Fml
  lends_get map key value = LendsSo (the_row K V A h (record { eq = g.eq }) (record { cmp = g.cmp }) (record { partial_cmp = g.partial_cmp }) heap) V map value
      (λ new last. new ≡ set_value (eq_by_cmp g.cmp key) map.now last) (λ new. new ≡ map.now)

  -- no key changes; the values are those of the entries at which the loan of this name ends, of which no
  -- more is known
  abbrev pub lends_values : MutBor (List (K.Denot × V.Denot)) → GName → Fml
  lends_values map name = follows (the_row K V A h (record { eq = g.eq }) (record { cmp = g.cmp }) (record { partial_cmp = g.partial_cmp }) heap)
      (the_row K V A h (record { eq = g.eq }) (record { cmp = g.cmp }) (record { partial_cmp = g.partial_cmp }) heap) map.ghost_name name
      (λ last. with_values map.now (values_of last))

module _ (B V A : RattleType) (heap_of_text : alloc.Ghosts B.Denot) (heap : alloc.Ghosts A.Denot) where
  -- the row of a map with `String` keys
  abbrev pub text_map_row : RattleType
  text_map_row = the_row (Text B heap_of_text) V A (record { hash_input = λ k. fed.str (string_bytes k) }) (record { eq = string_eq }) (record { cmp = string_cmp })
      (record { partial_cmp = λ x y. Some (string_cmp x y) }) heap

  -- the same under the key with that text
  abbrev pub lends_text : MutBor (List (String B.Denot × V.Denot)) → List ℕ → Option (MutBor V.Denot) → Fml
  lends_text map text value = LendsSo text_map_row V map value
      (λ new last. new ≡ set_value (is_seen_as (eq_by_cmp (slice_cmp nat_cmp)) string_bytes text) map.now last) (λ new. new ≡ map.now)

module _ (T B V A : RattleType) (h : hash.Ghosts T.Denot) (g : OrdMembers T.Denot) (heap_of_key : alloc.Ghosts B.Denot) (heap : alloc.Ghosts A.Denot) where
  -- the row of a map whose keys are vectors
  abbrev pub items_map_row : RattleType
  items_map_row = the_row (Items T B heap_of_key) V A (record { hash_input = λ k. fed.slice h.hash_input (vec_items k) }) (record { eq = λ x y. pointwise g.eq (vec_items x) (vec_items y) })
      (record { cmp = λ x y. slice_cmp g.cmp (vec_items x) (vec_items y) }) (record { partial_cmp = λ x y. slice_partial_cmp g.partial_cmp (vec_items x) (vec_items y) }) heap

  -- the same under the key of those items
  abbrev pub lends_items : MutBor (List (Vec T.Denot B.Denot × V.Denot)) → List T.Denot → Option (MutBor V.Denot) → Fml
  lends_items map items value = LendsSo items_map_row V map value
      (λ new last. new ≡ set_value (is_seen_as (eq_by_cmp (slice_cmp g.cmp)) vec_items items) map.now last) (λ new. new ≡ map.now)
