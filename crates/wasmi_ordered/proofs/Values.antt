-- The entries of the standard library's tree with other values are this crate's map with them.
-- for src/map.rt
use Rattle.std.proofs.Common.{◌≡◌, refl, ap, ◌∙◌, List, [], ◌∷◌}
use Rattle.std.specs.BTreeMap.{BTreeMap}
use Rattle.std_collections.specs.Btree.LentTree.{refilled}
use Rattle.std_collections.specs.Layout.BTreeMapValues.{with_values as tree_with_values}
use Rattle.wasmi_map_specs.specs.Values.{with_values}

module _ {K V : Type 0} where
  refilled-with_values : (entries : List (K × V)) (written : List V) → refilled entries written ≡ with_values entries written
  refilled-with_values [] written = refl
  refilled-with_values (entry ∷ entries) [] = refl
  refilled-with_values (entry ∷ entries) (value ∷ written) = ap (λ rest. (entry.0, value) ∷ rest) (refilled-with_values entries written)

  pub entries-tree_with_values : (tree : BTreeMap K V) (entries : List (K × V)) → tree.entries ≡ entries
      → (written : List V) → (tree_with_values tree 0 written).entries ≡ with_values entries written
  unfolding tree_with_values
  entries-tree_with_values tree entries is written = refilled-with_values tree.entries written ∙ ap (λ es. with_values es written) is
