-- Where the bytes are no writing of a valid module.
-- for src/decoder.rt
use Rattle.std.proofs.Common.{◌≡◌, ℕ, ◌+◌, ◌<◌, length, List, [], ◌∷◌, ◌++◌, map, sym, ap, subst, ◌∙◌, arith}
use Rattle.std.specs.List.{All, count_by}
use Rattle.std.proofs.lemmas.List.{length-map, get_or-map}
use Rattle.std.proofs.lemmas.List.Elements.{All-weaker}
use Rattle.wasmi_module.specs.declared.counts.Counts.{Counts}
use Rattle.wasmi_module.specs.declared.module.Kind.{Kind}
use Rattle.wasmi_module.specs.declared.module.Kind.TheVariants.{Func, Table, Memory, Global}
use Rattle.wasmi_module.specs.declared.module.Import as rust_import
use Rattle.wasmi_module.specs.declared.module.Global as rust_global
use Rattle.wasmi_module.specs.declared.module.Export as rust_export
use Rattle.wasmi_module.specs.Modules.{Import, Module}
use Rattle.wasmi_module.specs.Views.{import_of, global_of, export_of, init_of}
use Rattle.wasmi_module.specs.Texts.{Is, ◌⋅◌}
use Rattle.wasmi_module.specs.inner.Reading.{Reads}
use Rattle.wasmi_module.specs.Sections.{header, AreRead, AreSkipped, IsWritten}
use Rattle.wasmi_module.specs.inner.Order.{HasSections, HasSkipped}
use Rattle.wasmi_module.specs.Valid.{IsTypeIndex, IsImportWithin, IsInitWithin, is_of, counts_of, AreDistinct, IsValid}
use Rattle.wasmi_module.proofs.OnceLemmas.{rest_same, same_front}
use Rattle.wasmi_module.proofs.OnceSections.{Found}
use Rattle.wasmi_module.proofs.ModuleLemmas.{count_map, import_within, names_of}

-- ---- the sections of a writing

pub found_has : (m : Module) (text : List ℕ) (f : Found m text) → HasSections ((1, f.types) ∷ (2, f.imports) ∷ (3, f.functions) ∷ (4, f.tables) ∷ (5, f.memories) ∷ (6, f.globals) ∷ (7, f.exports)
    ∷ (8, f.skipped.0) ∷ (9, f.skipped.1) ∷ (12, f.skipped.2) ∷ (10, f.skipped.3) ∷ (11, f.skipped.4) ∷ []) text
found_has m text f = record { sections = f.all.sections; written = f.all.written; order = f.all.order }

pub found_skipped : (m : Module) (text : List ℕ) (f : Found m text) (after : List ℕ) → HasSections ((8, f.skipped.0) ∷ (9, f.skipped.1) ∷ (12, f.skipped.2) ∷ (10, f.skipped.3) ∷ (11, f.skipped.4) ∷ []) after → HasSkipped after
found_skipped m text f after h = record { start = f.skipped.0; elements = f.skipped.1; count = f.skipped.2; code = f.skipped.3; segments = f.skipped.4; all = h }

-- ---- how many there are

pub len_same : {X Y : Type 0} (f : X → Y) (xs : List X) (ys : List Y) (n : ℕ) → n ≡ length xs → ys ≡ map f xs → n ≡ length ys
len_same f xs ys n len same = len ∙ sym (length-map xs f) ∙ ap length (sym same)

pub kind_count : (kind : Kind) (seen imports : List rust_import.Import) (plain : List Import) (n own len : ℕ) → n ≡ count_by (λ i. is_of kind i.item) seen → seen ≡ imports → plain ≡ map import_of imports → len ≡ own
    → n + len ≡ count_by (λ i. is_of kind i.item) plain + own
kind_count kind seen imports plain n own len is same view size =
    let counted : n ≡ count_by (λ i. is_of kind i.item) plain = is ∙ ap (count_by (λ i. is_of kind i.item)) same ∙ sym (count_map (λ i. is_of kind i.item) import_of imports) ∙ ap (count_by (λ i. is_of kind i.item)) (sym view) in
    omega arith

pub counts_same : (m : Module) (types functions tables memories globals : ℕ) → types ≡ length m.types
    → functions ≡ count_by (λ i. is_of Func i.item) m.imports + length m.functions
    → tables ≡ count_by (λ i. is_of Table i.item) m.imports + length m.tables
    → memories ≡ count_by (λ i. is_of Memory i.item) m.imports + length m.memories
    → globals ≡ count_by (λ i. is_of Global i.item) m.imports + length m.globals
    → counts_of m ≡ record { types = types; functions = functions; tables = tables; memories = memories; globals = globals }
counts_same m types functions tables memories globals a b c d e =
    let made : ℕ → ℕ → ℕ → ℕ → ℕ → Counts = λ types functions tables memories globals. record { types = types; functions = functions; tables = tables; memories = memories; globals = globals } in
    let known = counts_of m in
    ap (λ n. made n known.functions known.tables known.memories known.globals) (sym a)
    ∙ ap (λ n. made types n known.tables known.memories known.globals) (sym b)
    ∙ ap (λ n. made types functions n known.memories known.globals) (sym c)
    ∙ ap (λ n. made types functions tables n known.globals) (sym d)
    ∙ ap (λ n. made types functions tables memories n) (sym e)

-- ---- what is checked

pub imports_valid : (m : Module) (early : Counts) → IsValid m → early.types ≡ length m.types → All (λ i. IsImportWithin early i.item) m.imports
imports_valid m early valid types =
    All-weaker (λ i. IsImportWithin (counts_of m) i.item) (λ i. IsImportWithin early i.item) (λ i h. import_within (counts_of m) early i.item (sym types) h) m.imports valid.imports

pub functions_valid : (m : Module) (early : Counts) → IsValid m → early.types ≡ length m.types → All (IsTypeIndex early) m.functions
functions_valid m early valid types = subst (λ (n : ℕ). All (λ index. index < n) m.functions) (sym types) valid.functions

all_of_map : {X Y : Type 0} (P : Y → Type 0) (f : X → Y) (xs : List X) → All P (map f xs) → All (λ x. P (f x)) xs
all_of_map P f xs all = λ k d lt.
    let within : k < length (map f xs) = omega (arith, length-map xs f) in
    subst P (get_or-map f xs k d (f d) lt) (all k (f d) within)

pub globals_valid : (m : Module) (late : Counts) (globals seen : List rust_global.Global) → IsValid m → counts_of m ≡ late → m.globals ≡ map global_of globals → seen ≡ globals → All (λ global. IsInitWithin late (init_of global.init)) seen
globals_valid m late globals seen valid counts view same =
    let known = subst (λ (k : Counts). All (λ g. IsInitWithin k g.init) m.globals) counts valid.globals in
    let items = subst (All (λ g. IsInitWithin late g.init)) view known in
    subst (All (λ global. IsInitWithin late (init_of global.init))) (sym same) (all_of_map (λ g. IsInitWithin late g.init) global_of globals items)

pub exports_distinct : (m : Module) (exports seen : List rust_export.Export) → IsValid m → m.exports ≡ map export_of exports → seen ≡ exports → AreDistinct (map (λ export. export.name.now) seen)
exports_distinct m exports seen valid view same =
    subst AreDistinct (ap (λ es. map (λ e. e.name) es) view ∙ sym (names_of exports) ∙ ap (λ es. map (λ (e : rust_export.Export). e.name.now) es) (sym same)) valid.distinct

-- ---- behind the header

pub no_header : (m : Module) (bytes reader : List ℕ) → reader ≡ bytes → ((after : List ℕ) → Reads (Is header) reader after → ⊥) → IsWritten m bytes → ⊥
no_header m bytes reader same none h = none h.back (record { text = h.front; is_text = h.first; parts = same ∙ h.parts })

pub behind_header : (m : Module) (bytes reader : List ℕ) {after : List ℕ} → reader ≡ bytes → Reads (Is header) reader after → IsWritten m bytes → (AreRead m ⋅ AreSkipped) after
behind_header m bytes reader {after} same read h =
    subst (AreRead m ⋅ AreSkipped) (rest_same h.front read.text h.back after (sym h.parts ∙ sym same ∙ read.parts) (h.first ∙ sym read.is_text)) h.second

abbrev magic : List ℕ
magic = 0 ∷ 97 ∷ 115 ∷ 109 ∷ []

abbrev version : List ℕ
version = 1 ∷ 0 ∷ 0 ∷ 0 ∷ []

begins : {bytes after : List ℕ} → Reads (Is header) bytes after → bytes ≡ magic ++ (version ++ after)
begins {bytes} {after} h = h.parts ∙ ap (λ (t : List ℕ). t ++ after) h.is_text

pub header_magic : (front rest bytes after : List ℕ) → bytes ≡ front ++ rest → length front ≡ 4 → (front ≡ magic → ⊥) → Reads (Is header) bytes after → ⊥
header_magic front rest bytes after parts len other h = other (same_front front magic rest (version ++ after) len (sym parts ∙ begins h))

pub header_rest : (front rest bytes after : List ℕ) → bytes ≡ front ++ rest → length front ≡ 4 → Reads (Is header) bytes after → rest ≡ version ++ after
header_rest front rest bytes after parts len h =
    let e : front ++ rest ≡ magic ++ (version ++ after) = sym parts ∙ begins h in
    rest_same front magic rest (version ++ after) e (same_front front magic rest (version ++ after) len e)

pub header_version : (front second rest bytes mid after : List ℕ) → bytes ≡ front ++ mid → length front ≡ 4 → mid ≡ second ++ rest → length second ≡ 4 → (second ≡ version → ⊥) → Reads (Is header) bytes after → ⊥
header_version front second rest bytes mid after parts len next size other h =
    other (same_front second version rest after size (sym next ∙ header_rest front mid bytes after parts len h))
