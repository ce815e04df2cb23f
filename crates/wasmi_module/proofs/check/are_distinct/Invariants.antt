use Rattle.std.proofs.Common.{◌≡◌, ℕ, List, map, take}
use Rattle.std.specs.List.{list_any}
use Rattle.std.specs.Str.{bytes_eq}
use Rattle.std.specs.Ordering.{nat_cmp}
use Rattle.std.specs.Cmp.Lexicographic.{slice_cmp}
use Rattle.std.specs.BTreeSet.{contains_by}
use Rattle.wasmi_module.specs.Valid.{AreDistinct}
use Rattle.wasmi_module.proofs.check.are_distinct.Given as goal

-- The set has the names so far, and these are distinct.
abbrev pub invariant-loop-export : goal.invariant-loop-export
invariant-loop-export g l = record {
  names : (q : List ℕ) → contains_by (λ name. slice_cmp nat_cmp q name.now) l.names ≡ list_any (bytes_eq q) (map (λ export. export.name.now) (take l.export-index l.exports));
  distinct : AreDistinct (map (λ export. export.name.now) (take l.export-index l.exports));
}
