-- Values that are written leave the keys.
-- for src/map.rt of wasmi_ordered and wasmi_hashed
use Rattle.std.proofs.Common.{◌≡◌, refl, ap, List, [], ◌∷◌, length, arith}
use Rattle.std.specs.Map.{keys_of}
use Rattle.wasmi_map_specs.specs.Values.{with_values, KeepsKeys}

module _ {K V : Type 0} where
  pub with_values-none : (entries : List (K × V)) → with_values entries [] ≡ entries
  with_values-none [] = refl
  with_values-none (entry ∷ entries) = refl

  keys_of-with_values : (entries : List (K × V)) (values : List V) → keys_of (with_values entries values) ≡ keys_of entries
  keys_of-with_values [] values = refl
  keys_of-with_values (entry ∷ entries) [] = refl
  keys_of-with_values (entry ∷ entries) (value ∷ values) = ap (λ keys. entry.0 ∷ keys) (keys_of-with_values entries values)

  length-with_values : (entries : List (K × V)) (values : List V) → length (with_values entries values) ≡ length entries
  length-with_values [] values = refl
  length-with_values (entry ∷ entries) [] = refl
  length-with_values (entry ∷ entries) (value ∷ values) = omega (arith, length-with_values entries values)

  pub keeps_keys : (entries : List (K × V)) → KeepsKeys entries
  keeps_keys entries = (keys_of-with_values entries, length-with_values entries)
