-- The standard library's map with other values is this crate's map with them.
-- for src/map.rt
use Rattle.std.proofs.Common.{◌≡◌, refl, ap, ◌∙◌, List, [], ◌∷◌}
use Rattle.std.specs.HashMap.{HashMap, hasher_of}
use Rattle.std_collections.specs.Layout.Columns.{set_values}
use Rattle.std_collections.specs.Layout.HashMapValues.{with_values as table_with_values}
use Rattle.wasmi_map_specs.specs.Values.{with_values}
use Rattle.wasmi_map_specs.proofs.Values.{with_values-none}
use Rattle.wasmi_hashed.specs.Entries.{Entries}
use Rattle.wasmi_hashed.specs.MapEntry.{map_of}

module _ {K V : Type 0} where
  set_values-with_values : (entries : List (K × V)) (values : List V) → set_values entries values ≡ with_values entries values
  set_values-with_values [] values = refl
  set_values-with_values (entry ∷ entries) [] = ap (λ rest. entry ∷ rest) (set_values-with_values entries [] ∙ with_values-none entries)
  set_values-with_values (entry ∷ entries) (value ∷ values) = ap (λ rest. (entry.0, value) ∷ rest) (set_values-with_values entries values)

  pub map_of-with_values : {S : Type 0} (table : HashMap K V S) (map : Entries K V S) → map_of table ≡ map
      → (values : List V) → map_of (table_with_values table values) ≡ record map { entries = with_values map.entries values }
  unfolding table_with_values
  map_of-with_values {S = S} table map is values =
      (λ i. record { entries = set_values-with_values table.entries values i; hasher = hasher_of table })
      ∙ ap {A = Entries K V S} (λ m. record m { entries = with_values m.entries values }) is
