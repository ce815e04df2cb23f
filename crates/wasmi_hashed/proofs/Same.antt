-- The standard library's equality of maps and sets in the words of `wasmi_map_specs`.
-- for src/map/compared.rt, src/set/compared.rt
use Rattle.std.proofs.Common.{◌≡◌, Bool}
use Rattle.std.specs.Bool.{one_answer}
use Rattle.std.specs.Cmp.{IsEquivalence}
use Rattle.std.specs.HashMap.{HashMap, hash_map_eq}
use Rattle.std.specs.HashMap.Eq.{get_from_hash_map_eq, hash_map_eq_from_get}
use Rattle.std.specs.HashSet.{HashSet, hash_set_eq}
use Rattle.std.specs.HashSet.Eq.{hash_set_eq_decides}
use Rattle.wasmi_map_specs.specs.Same.{same_map, same_map-decides, same_set, same_set-decides}

module _ {K S : Type 0} {eq : K → K → Bool} (laws : IsEquivalence eq) where
  pub hash_map_eq-same : {V : Type 0} (E : V → V → Bool) (m n : HashMap K V S) → hash_map_eq eq E m n ≡ same_map eq E m.entries n.entries
  hash_map_eq-same E m n =
      one_answer _ _ (get_from_hash_map_eq eq E laws m n, hash_map_eq_from_get eq E m n) (same_map-decides laws E m.entries n.entries)

  pub hash_set_eq-same : (a b : HashSet K S) → hash_set_eq eq a b ≡ same_set eq a.keys b.keys
  hash_set_eq-same a b = one_answer _ _ (hash_set_eq_decides laws a b) (same_set-decides laws a.keys b.keys)
