-- What a linker keeps of modules, in tables by numbers and symbols.
use Rattle.std.specs.Prelude.{◌≡◌, ℕ, ◌==◌, Bool, false, ◌&&◌, if◌then◌else◌, List, map, filter, position, Option, Some, None, IsSome, option_map, option_and_then, slice_get}
use Rattle.std.specs.List.{All, AllZip}
use Rattle.std.specs.Option.{option_eq, option_or}
use Rattle.std.specs.Str.{bytes_eq}
use Rattle.wasmi_interner.specs.Interner.{symbol_of}
use Rattle.wasmi_dense.specs.Components.{component_at}
use Rattle.wasmi_map_specs.specs.Maps.{value_at}
use Rattle.wasmi_module.specs.Modules.{FuncType, Import, Export, Module}
use Rattle.wasmi_module.specs.Valid.{is_of}
use Rattle.wasmi_module.specs.Views.{func_type_of}
use Rattle.wasmi_module.specs.declared.module.ImportType.{ImportType}
use Rattle.wasmi_module.specs.declared.module.Kind.{Kind}
use Rattle.wasmi_module.specs.declared.module.Kind.TheVariants as kinds
use Rattle.wasmi_link_lib.specs.Lines.{ItemType, Func, Table, Memory, Global}
use Rattle.wasmi_link_lib.specs.Linking.{Named, func_type_eq, matches, export_named, without_repetitions, all_names, all_types}
use Rattle.wasmi_link_lib.specs.declared.exports.Place.{Place}
use Rattle.wasmi_link_lib.specs.declared.imported.Imported as rust_imported
use Rattle.wasmi_link_lib.specs.declared.item.Item as rust_item
use Rattle.wasmi_link_lib.specs.declared.item.Item.TheVariants as item
use Rattle.wasmi_link_lib.specs.declared.linker.Linker as rust_linker
use Rattle.wasmi_link_lib.specs.declared.names.ImportSymbols.{ImportSymbols}
use Rattle.wasmi_link_lib.specs.declared.types.Signature as rust_signature

-- ---- types of functions

-- a function's type that is lent
abbrev pub signature_of : rust_signature.Signature → FuncType
signature_of s = record { params = s.params.now; results = s.results.now }

-- the key of a type among these
abbrev pub key_of : List FuncType → FuncType → Option ℕ
key_of types type = position (func_type_eq type) types

-- each of a module's types has a key
abbrev pub HasKeys : List FuncType → Module → Type 0
HasKeys types m = All (λ type. IsSome (key_of types type)) m.types

-- a type, with its key where it is that of a function
pub record Keyed : Type 0 where
  pub type : ItemType
  pub key : Option ℕ

abbrev pub keyed : List FuncType → ItemType → Keyed
keyed types (Func type) = record { type = Func type; key = key_of types type }
keyed types (Table type) = record { type = Table type; key = None }
keyed types (Memory type) = record { type = Memory type; key = None }
keyed types (Global type) = record { type = Global type; key = None }

abbrev pub keyed_of : {A : Type 0} → rust_item.Item A → Keyed
keyed_of (item.Func id type) = record { type = Func (func_type_of type.now); key = Some id }
keyed_of (item.Table type) = record { type = Table type; key = None }
keyed_of (item.Memory type) = record { type = Memory type; key = None }
keyed_of (item.Global type) = record { type = Global type; key = None }

-- as `matches`, with functions compared by the keys of their types
abbrev pub matches_by : Option ℕ → Option ℕ → ItemType → ItemType → Bool
matches_by a b (Func asked) (Func given) = option_eq ◌==◌ a b
matches_by a b (Func asked) given = false
matches_by a b (Table asked) given = matches (Table asked) given
matches_by a b (Memory asked) given = matches (Memory asked) given
matches_by a b (Global asked) given = matches (Global asked) given

abbrev pub keyed_matches : Keyed → Keyed → Bool
keyed_matches asked given = matches_by asked.key given.key asked.type given.type

-- ---- imports

-- what a module imports of each kind
pub record ImportedItems : Type 0 where
  pub functions : List ImportType
  pub tables : List ImportType
  pub memories : List ImportType
  pub globals : List ImportType

-- of one kind
abbrev pub imported_of : Kind → Module → List ImportType
imported_of kind m = filter (is_of kind) (map (λ i. i.item) m.imports)

abbrev pub all_imported : Module → ImportedItems
all_imported m = record {
  functions = imported_of kinds.Func m;
  tables = imported_of kinds.Table m;
  memories = imported_of kinds.Memory m;
  globals = imported_of kinds.Global m;
}

abbrev pub imported_view : {A : Type 0} → rust_imported.Imported A → ImportedItems
imported_view i = record {
  functions = i.functions.items;
  tables = i.tables.items;
  memories = i.memories.items;
  globals = i.globals.items;
}

-- ---- tables by symbols

-- A name and what it stands for were noted: the name's symbol has this, unless it had something, and every
-- other symbol has what it had.
abbrev pub Notes : {V : Type 0} → List (List ℕ) → (ℕ → Option V) → List ℕ → V → (ℕ → Option V) → Type 0
Notes names old name value new =
    (text : List ℕ) (symbol : ℕ) → symbol_of names text ≡ Some symbol
    → new symbol ≡ option_or (old symbol) (if bytes_eq text name then Some value else None)

-- the number of the first module of a name
abbrev pub first_of : List Named → List ℕ → Option ℕ
first_of modules name = position (λ m. bytes_eq name m.name) modules

-- each symbol has the number of the first module whose name is its text
abbrev pub HasFirsts : List (List ℕ) → List (Option ℕ) → List Named → Type 0
HasFirsts names firsts modules =
    (text : List ℕ) (symbol : ℕ) → symbol_of names text ≡ Some symbol
    → component_at firsts symbol ≡ first_of modules text

-- where an export is among its module's items
abbrev pub place_of : Export → Place
place_of e = record { kind = e.kind; index = e.index }

-- where the export of a name is, of the module of a number
abbrev pub place_at : List Named → ℕ → List ℕ → Option Place
place_at modules id name =
    option_and_then (λ m. option_map place_of (export_named m.body name)) (slice_get modules id)

abbrev pub export_key_eq : ℕ × ℕ → ℕ × ℕ → Bool
export_key_eq a b = (a.0 == b.0) && (a.1 == b.1)

-- where the export of a symbol is, of the module of a number
abbrev pub place_in : List ((ℕ × ℕ) × Place) → ℕ → ℕ → Option Place
place_in exports id symbol = value_at export_key_eq exports (id, symbol)

-- each number of a module and symbol has the place of the export whose name is the symbol's text
abbrev pub HasExports : List (List ℕ) → List ((ℕ × ℕ) × Place) → List Named → Type 0
HasExports names exports modules =
    (id symbol : ℕ) (text : List ℕ) → symbol_of names text ≡ Some symbol
    → place_in exports id symbol ≡ place_at modules id text

-- the names of an import have these symbols,
abbrev pub AreSymbolsOf : List (List ℕ) → Import → ImportSymbols → Type 0
AreSymbolsOf names i symbols = (symbol_of names i.asked ≡ Some symbols.asked) × (symbol_of names i.field ≡ Some symbols.field)

-- and those of a module's imports
abbrev pub HasSymbols : List (List ℕ) → Named → List ImportSymbols → Type 0
HasSymbols names m symbols = AllZip (AreSymbolsOf names) m.body.imports symbols

-- ---- all of them

-- the tables of these modules
pub record IsLinker (modules : List Named) (names : List (List ℕ)) (types : List FuncType)
    (symbols : List (List ImportSymbols)) (firsts : List (Option ℕ)) (exports : List ((ℕ × ℕ) × Place))
    (imported : List ImportedItems) : Type 0 where
  pub has_names : names ≡ without_repetitions bytes_eq (all_names modules)
  pub has_symbols : AllZip (HasSymbols names) modules symbols
  pub has_types : types ≡ without_repetitions func_type_eq (all_types modules)
  pub has_firsts : HasFirsts names firsts modules
  pub has_exports : HasExports names exports modules
  pub has_imported : imported ≡ map (λ m. all_imported m.body) modules

abbrev pub IsLinkerOf : {A : Type 0} → List Named → rust_linker.Linker A → Type 0
IsLinkerOf modules l =
    IsLinker modules l.names (map signature_of l.types.handed) (map (λ s. s.items) l.symbols.items) l.firsts l.exports.entries (map imported_view l.imported.items)
