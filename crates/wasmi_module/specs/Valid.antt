-- Which modules refer only to what they have.
use Rattle.std.specs.Prelude.{◌≢◌, ℕ, ◌+◌, ◌<◌, Bool, true, false, List, [], length, slice_index_or, map, All}
use Rattle.std.specs.List.{count_by}
use Rattle.wasmi_module.specs.declared.counts.Counts.{Counts}
use Rattle.wasmi_module.specs.declared.module.ImportType.{ImportType}
use Rattle.wasmi_module.specs.declared.module.ImportType.TheVariants as import
use Rattle.wasmi_module.specs.declared.module.Kind.{Kind}
use Rattle.wasmi_module.specs.declared.module.Kind.TheVariants.{Func, Table, Memory, Global}
use Rattle.wasmi_module.specs.Modules.{Import, Init, I32, I64, F32, F64, V128, RefNull, RefFunc, GlobalGet, Export, Module}

-- nothing is asked
abbrev pub IsAnything : {X : Type 0} → Counts → X → Type 0
IsAnything counts x = Unit {0}

-- the index is that of one of the module's types
abbrev pub IsTypeIndex : Counts → ℕ → Type 0
IsTypeIndex counts index = index < counts.types

-- an imported function has one of the module's types
abbrev pub IsImportWithin : Counts → ImportType → Type 0
IsImportWithin counts (import.Func index) = IsTypeIndex counts index
IsImportWithin counts (import.Table type) = Unit {0}
IsImportWithin counts (import.Memory type) = Unit {0}
IsImportWithin counts (import.Global type) = Unit {0}

-- how many there are of a kind
abbrev pub count_of : Counts → Kind → ℕ
count_of counts Func = counts.functions
count_of counts Table = counts.tables
count_of counts Memory = counts.memories
count_of counts Global = counts.globals

-- what is exported is there: its index is below the number of those of its kind
abbrev pub IsExportWithin : Counts → Export → Type 0
IsExportWithin counts item = item.index < count_of counts item.kind

abbrev pub IsInitWithin : Counts → Init → Type 0
IsInitWithin counts (I32 n) = Unit {0}
IsInitWithin counts (I64 n) = Unit {0}
IsInitWithin counts (F32 bytes) = Unit {0}
IsInitWithin counts (F64 bytes) = Unit {0}
IsInitWithin counts (V128 bytes) = Unit {0}
IsInitWithin counts (RefNull type) = Unit {0}
IsInitWithin counts (RefFunc index) = index < counts.functions
IsInitWithin counts (GlobalGet index) = index < counts.globals

-- whether what is imported is of this kind
abbrev pub is_of : Kind → ImportType → Bool
is_of Func (import.Func index) = true
is_of Table (import.Table type) = true
is_of Memory (import.Memory type) = true
is_of Global (import.Global type) = true
is_of kind item = false

-- how many of the imports are of this kind
abbrev pub imported : Kind → List Import → ℕ
imported kind imports = count_by (λ i. is_of kind i.item) imports

-- how many a module has to refer to: those that it imports, and its own
abbrev pub counts_of : Module → Counts
counts_of m = record {
  types = length m.types;
  functions = imported Func m.imports + length m.functions;
  tables = imported Table m.imports + length m.tables;
  memories = imported Memory m.imports + length m.memories;
  globals = imported Global m.imports + length m.globals;
}

-- no name stands at two places
abbrev pub AreDistinct : List (List ℕ) → Type 0
AreDistinct names = (i j : ℕ) → i < j → j < length names → slice_index_or names i [] ≢ slice_index_or names j []

-- each index in the module is that of something that it has, and no two exports have one name
pub record IsValid (m : Module) : Type 0 where
  pub imports : All (λ i. IsImportWithin (counts_of m) i.item) m.imports
  pub functions : All (IsTypeIndex (counts_of m)) m.functions
  pub globals : All (λ g. IsInitWithin (counts_of m) g.init) m.globals
  pub exports : All (IsExportWithin (counts_of m)) m.exports
  pub distinct : AreDistinct (map (λ e. e.name) m.exports)
