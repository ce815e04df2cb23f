use Rattle.std.proofs.Common.{◌≡◌, ◌≢◌, ℕ, List, map, take, Some, option_map, find}
use Rattle.std.specs.Str.{bytes_eq}
use Rattle.wasmi_interner.specs.Interner.{symbol_of}
use Rattle.wasmi_module.specs.Views.{export_of}
use Rattle.wasmi_link_lib.specs.inner.Tables.{place_in, place_of}
use Rattle.wasmi_link_lib.proofs.exports.note_exports.Given as goal

-- those so far are noted, and no other module's places have changed
abbrev pub invariant-loop-export : goal.invariant-loop-export
invariant-loop-export g l = record {
  own : (text : List ℕ) (symbol : ℕ) → symbol_of l.names text ≡ Some symbol → place_in l.exports.entries l.id symbol ≡ option_map place_of (find (λ e. bytes_eq text e.name) (map export_of (take l.export-index l.taken)));
  others : (other symbol : ℕ) → other ≢ l.id → place_in l.exports.entries other symbol ≡ place_in l.fn.exports.entries other symbol;
}
