use Rattle.std.proofs.Common.{◌≡◌, map, take}
use Rattle.std.specs.List.{AllZip, fold, flat_map}
use Rattle.std.specs.Str.{bytes_eq}
use Rattle.wasmi_module.specs.Views.{import_of}
use Rattle.wasmi_link_lib.specs.Linking.{import_names, with_value}
use Rattle.wasmi_link_lib.specs.inner.Tables.{AreSymbolsOf}
use Rattle.wasmi_link_lib.proofs.names.intern_imports.Given as goal

abbrev pub invariant-loop-import : goal.invariant-loop-import
invariant-loop-import g l = record {
  taken : l.names ≡ fold (with_value bytes_eq) l.fn.names (flat_map import_names (map import_of (take l.import-index l.imports)));
  symbols : AllZip (AreSymbolsOf l.names) (map import_of (take l.import-index l.imports)) l.symbols.items;
}
