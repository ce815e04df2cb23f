-- From the sections of a module to the module.
-- for src/decoder.rt
use Rattle.std.proofs.Common.{◌≡◌, ℕ, ◌+◌, ◌<◌, length, List, [], ◌∷◌, cond, Bool, map, refl, sym, ap, subst, ◌∙◌}
use Rattle.std.specs.List.{All, count_by, fold}
use Rattle.std.proofs.lemmas.List.{length-map, map-id}
use Rattle.std.proofs.lemmas.List.Elements.{All-map, All-weaker}
use Rattle.wasmi_module.specs.declared.counts.Counts.{Counts}
use Rattle.wasmi_module.specs.declared.module.ImportType.{ImportType}
use Rattle.wasmi_module.specs.declared.module.ImportType.TheVariants as import
use Rattle.wasmi_module.specs.declared.module.Kind.{Kind}
use Rattle.wasmi_module.specs.declared.module.Kind.TheVariants.{Func, Table, Memory, Global}
use Rattle.wasmi_module.specs.declared.module.Module as rust_module
use Rattle.wasmi_module.specs.declared.module.Import as rust_import
use Rattle.wasmi_module.specs.declared.module.Export as rust_export
use Rattle.wasmi_module.specs.Modules.{Init, I32, I64, F32, F64, V128, RefNull, RefFunc, GlobalGet, Export}
use Rattle.wasmi_module.specs.Views.{import_of, init_of, global_of, export_of, module_of}
use Rattle.wasmi_module.specs.inner.Reading.{Reads}
use Rattle.wasmi_module.specs.Sections.{IsNext}
use Rattle.wasmi_module.specs.Valid.{IsTypeIndex, IsImportWithin, IsInitWithin, IsExportWithin, count_of, is_of, counts_of, AreDistinct, IsValid}

-- ---- items as a contract sees them

pub next_read : {X : Type 0} (W : X → List ℕ → Type 0) (number : ℕ) (xs : List X) {before after : List ℕ} → Reads (IsNext number W (map (λ x. x) xs)) before after → Reads (IsNext number W xs) before after
next_read W number xs {before} {after} h = subst (λ ys. Reads (IsNext number W ys) before after) (map-id xs) h

-- ---- indices

fold_map : {X Y : Type 0} (g : ℕ → Y → ℕ) (f : X → Y) (n : ℕ) (xs : List X) → fold g n (map f xs) ≡ fold (λ m x. g m (f x)) n xs
fold_map g f n [] = refl
fold_map g f n (x ∷ xs) = fold_map g f (g n (f x)) xs

pub count_map : {X Y : Type 0} (p : Y → Bool) (f : X → Y) (xs : List X) → count_by p (map f xs) ≡ count_by (λ x. p (f x)) xs
count_map p f xs = fold_map (λ n y. n + cond (p y) 1 0) f 0 xs

pub import_within : (a b : Counts) (item : ImportType) → a.types ≡ b.types → IsImportWithin a item → IsImportWithin b item
import_within a b (import.Func index) e h = subst (λ (n : ℕ). index < n) e h
import_within a b (import.Table type) e h = tt
import_within a b (import.Memory type) e h = tt
import_within a b (import.Global type) e h = tt

init_within : (a b : Counts) (init : Init) → a.functions ≡ b.functions → a.globals ≡ b.globals → IsInitWithin a init → IsInitWithin b init
init_within a b (I32 n) e d h = tt
init_within a b (I64 n) e d h = tt
init_within a b (F32 bytes) e d h = tt
init_within a b (F64 bytes) e d h = tt
init_within a b (V128 bytes) e d h = tt
init_within a b (RefNull type) e d h = tt
init_within a b (RefFunc index) e d h = subst (λ (n : ℕ). index < n) e h
init_within a b (GlobalGet index) e d h = subst (λ (n : ℕ). index < n) d h

-- the counts say of this kind what the module has
abbrev pub Counted : {A : Type 0} → rust_module.Module A → Kind → ℕ → ℕ → Type 0
Counted m kind own count = count ≡ count_by (λ i. is_of kind i.item) m.imports.items + own

is_counted : {A : Type 0} (m : rust_module.Module A) (kind : Kind) (own count : ℕ) → Counted m kind own count → count ≡ count_by (λ i. is_of kind i.item) (module_of m).imports + own
is_counted m kind own count e = e ∙ ap (λ (n : ℕ). n + own) (sym (count_map (λ i. is_of kind i.item) import_of m.imports.items))

pub counted : {A : Type 0} (m : rust_module.Module A) (kind : Kind) (imports : List rust_import.Import) (imported own len : ℕ) → imported ≡ count_by (λ i. is_of kind i.item) imports → imports ≡ m.imports.items → len ≡ own → Counted m kind own (imported + len)
counted m kind imports imported own len is same size = rw (is, same, size) refl

-- All of the counts are those of the module.
pub record AreCounts {A : Type 0} (m : rust_module.Module A) (counts : Counts) : Type 0 where
  pub functions : Counted m Func (length m.functions.items) counts.functions
  pub tables : Counted m Table (length m.tables.items) counts.tables
  pub memories : Counted m Memory (length m.memories.items) counts.memories
  pub globals : Counted m Global (length m.globals.items) counts.globals

same_count : {A : Type 0} (m : rust_module.Module A) (counts : Counts) (kind : Kind) → AreCounts m counts → count_of counts kind ≡ count_of (counts_of (module_of m)) kind
same_count m counts Func h = is_counted m Func (length m.functions.items) counts.functions h.functions
same_count m counts Table h = is_counted m Table (length m.tables.items) counts.tables h.tables
same_count m counts Memory h = is_counted m Memory (length m.memories.items) counts.memories h.memories
same_count m counts Global h =
    is_counted m Global (length m.globals.items) counts.globals h.globals
    ∙ ap (λ (n : ℕ). count_by (λ i. is_of Global i.item) (map import_of m.imports.items) + n) (sym (length-map m.globals.items global_of))

pub names_of : (exports : List rust_export.Export) → map (λ e. e.name.now) exports ≡ map (λ (e : Export). e.name) (map export_of exports)
names_of [] = refl
names_of (e ∷ es) = ap (λ names. e.name.now ∷ names) (names_of es)

-- What was checked of each item as it was read holds in the whole module.
pub is_valid : {A : Type 0} (m : rust_module.Module A) (early late : Counts) → early.types ≡ length m.types.items → late.types ≡ length m.types.items → AreCounts m late
    → All (λ i. IsImportWithin early i.item) (map import_of m.imports.items) → All (IsTypeIndex early) (map (λ index. index) m.functions.items)
    → All (λ g. IsInitWithin late (init_of g.init)) m.globals.items → All (IsExportWithin late) (map export_of m.exports.items)
    → AreDistinct (map (λ e. e.name.now) m.exports.items) → IsValid (module_of m)
is_valid m early late types late_types counts imports functions globals exports distinct =
    let known = counts_of (module_of m) in
    let same : early.types ≡ known.types = types ∙ sym (length-map m.types.items _) in
    record {
      imports = All-weaker (λ i. IsImportWithin early i.item) (λ i. IsImportWithin known i.item) (λ i h. import_within early known i.item same h) (map import_of m.imports.items) imports;
      functions = subst (λ (n : ℕ). All (λ index. index < n) m.functions.items) same (subst (All (IsTypeIndex early)) (map-id m.functions.items) functions);
      globals = All-map (λ g. IsInitWithin known g.init) global_of m.globals.items
          (All-weaker (λ g. IsInitWithin late (init_of g.init)) (λ g. IsInitWithin known (init_of g.init))
          (λ g h. init_within late known (init_of g.init) (same_count m late Func counts) (same_count m late Global counts) h) m.globals.items globals);
      exports = All-weaker (IsExportWithin late) (IsExportWithin known) (λ e h. subst (λ (n : ℕ). e.index < n) (same_count m late e.kind counts) h) (map export_of m.exports.items) exports;
      distinct = subst AreDistinct (names_of m.exports.items) distinct;
    }
