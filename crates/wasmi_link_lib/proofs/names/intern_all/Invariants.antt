use Rattle.std.proofs.Common.{◌≡◌, map, take}
use Rattle.std.specs.List.{AllZip, fold}
use Rattle.std.specs.Str.{bytes_eq}
use Rattle.wasmi_link_lib.specs.Linking.{named_of, all_names, with_value}
use Rattle.wasmi_link_lib.specs.inner.Tables.{HasSymbols}
use Rattle.wasmi_link_lib.proofs.names.intern_all.Given as goal

abbrev pub invariant-loop-named : goal.invariant-loop-named
invariant-loop-named g l = record {
  taken : l.names ≡ fold (with_value bytes_eq) l.fn.names (all_names (map named_of (take l.named-index l.modules)));
  symbols : AllZip (HasSymbols l.names) (map named_of (take l.named-index l.modules)) (map (λ s. s.items) l.all.items);
}
