-- Which module gives what another one asks for: what linking is.
use Rattle.std.specs.Prelude.{◌≡◌, ℕ, ◌<◌, ◌≤◌, ◌^◌, ◌⊎◌, ◌==◌, Bool, true, false, ◌&&◌, if◌then◌else◌, List, [], ◌∷◌, ◌++◌, length, map, filter, find, fold, nat_le, Option, Some, None, is_some, option_and_then, position, slice_get, slice_index_or}
use Rattle.std.specs.Bool.{beq}
use Rattle.std.specs.Cmp.Lexicographic.{pointwise}
use Rattle.std.specs.List.{flat_map, All}
use Rattle.std.specs.Str.{bytes_eq}
use Rattle.wasmi_module.specs.Format.{val_type_code, ref_type_code}
use Rattle.wasmi_module.specs.Matching.{TableMatches, MemoryMatches}
use Rattle.wasmi_module.specs.Modules.{FuncType, Import, Export, Module}
use Rattle.wasmi_module.specs.Valid.{is_of, IsValid}
use Rattle.wasmi_module.specs.Views.{module_of}
use Rattle.wasmi_module.specs.declared.module.ValType.{ValType}
use Rattle.wasmi_module.specs.declared.module.Limits.{Limits}
use Rattle.wasmi_module.specs.declared.module.ImportType.{ImportType}
use Rattle.wasmi_module.specs.declared.module.ImportType.TheVariants as import
use Rattle.wasmi_module.specs.declared.module.Kind.{Kind}
use Rattle.wasmi_module.specs.declared.module.Kind.TheVariants as kinds
use Rattle.wasmi_link_lib.specs.Lines.{ItemType, Func, Table, Memory, Global, Answer, Found, Missing, Differs, Line, Linked}
use Rattle.wasmi_link_lib.specs.declared.named.NamedModule as rust_named

-- a module under its name
pub record Named : Type 0 where
  pub name : List ℕ
  pub body : Module

-- a named module without where it lies in memory
abbrev pub named_of : {A : Type 0} → rust_named.NamedModule A → Named
named_of m = record { name = m.name.now; body = module_of m.module }

-- each index in a module is that of something that it has
abbrev pub AreValid : List Named → Type 0
AreValid modules = All (λ m. IsValid m.body) modules

-- ---- what a module has

-- the type of this index among a module's types, or that of functions which take and return nothing,
-- where there is none
abbrev pub type_at : Module → ℕ → FuncType
type_at m index = slice_index_or m.types index (record { params = []; results = [] })

-- what an import asks for
abbrev pub asked_item : Module → ImportType → ItemType
asked_item m (import.Func index) = Func (type_at m index)
asked_item m (import.Table type) = Table type
asked_item m (import.Memory type) = Memory type
asked_item m (import.Global type) = Global type

-- the functions, tables, memories or globals that a module imports
abbrev pub imported_items : Module → Kind → List ItemType
imported_items m kind = map (asked_item m) (filter (is_of kind) (map (λ i. i.item) m.imports))

-- those that are its own
abbrev pub own_items : Module → Kind → List ItemType
own_items m kinds.Func = map (λ index. Func (type_at m index)) m.functions
own_items m kinds.Table = map Table m.tables
own_items m kinds.Memory = map Memory m.memories
own_items m kinds.Global = map (λ g. Global g.ty) m.globals

-- all of them, by index: those that it imports, and then its own.
-- Of a module that imports a memory of 1 page or more and has one of 2 to 4: 1.., 2..4.
abbrev pub items_of : Module → Kind → List ItemType
items_of m kind = imported_items m kind ++ own_items m kind

-- a module's export of a name, if there is one
abbrev pub export_named : Module → List ℕ → Option Export
export_named m name = find (λ e. bytes_eq name e.name) m.exports

-- what a module exports under a name, if there is such an export
abbrev pub exported : Module → List ℕ → Option ItemType
exported m name = option_and_then (λ e. slice_get (items_of m e.kind) e.index) (export_named m name)

-- the first module of a name, if there is one
abbrev pub module_named : List Named → List ℕ → Option Named
module_named modules name = find (λ m. bytes_eq name m.name) modules

-- ---- when what is given is what is asked for

abbrev pub val_type_eq : ValType → ValType → Bool
val_type_eq a b = val_type_code a == val_type_code b

-- the same parameters and the same results
abbrev pub func_type_eq : FuncType → FuncType → Bool
func_type_eq a b = pointwise val_type_eq a.params b.params && pointwise val_type_eq a.results b.results

-- where a most is asked for, one is given that isn't greater
abbrev pub most_matches : Option ℕ → Option ℕ → Bool
most_matches None given = true
most_matches (Some asked) None = false
most_matches (Some asked) (Some given) = nat_le given asked

-- 2..3 is what 1..4 asks for, and 2.. isn't
abbrev pub limits_match : Limits → Limits → Bool
limits_match asked given = nat_le asked.min given.min && most_matches asked.max given.max

-- functions and globals have equal types; of tables the types of the elements are equal, and the limits
-- match; of memories the limits match. `laws::matching_types`: this is `Matches`
abbrev pub matches : ItemType → ItemType → Bool
matches (Func asked) (Func given) = func_type_eq asked given
matches (Table asked) (Table given) = (ref_type_code asked.element == ref_type_code given.element) && limits_match asked.limits given.limits
matches (Memory asked) (Memory given) = limits_match asked.limits given.limits
matches (Global asked) (Global given) = val_type_eq asked.value given.value && beq asked.mutable given.mutable
matches asked given = false

-- the same, as the specification of WebAssembly says it
abbrev pub Matches : ItemType → ItemType → Type 0
Matches (Func asked) (Func given) = asked ≡ given
Matches (Table asked) (Table given) = TableMatches asked given
Matches (Memory asked) (Memory given) = MemoryMatches asked given
Matches (Global asked) (Global given) = asked ≡ given
Matches asked given = ⊥

-- ---- the answers

-- what becomes of an import that asks for this, where this is what the module of a name exports
abbrev pub answer_given : ItemType → List ℕ → Option ItemType → Answer
answer_given asked name None = Missing
answer_given asked name (Some given) = if matches asked given then Found name else Differs name given

-- where this is the module that is asked for a field
abbrev pub answer_by : ItemType → List ℕ → Option Named → Answer
answer_by asked field None = Missing
answer_by asked field (Some m) = answer_given asked m.name (exported m.body field)

-- an import with its answer: the first module of the name is asked.
-- Of `env` without `log`, and another `env` with it: an import of `env.log` is missing.
abbrev pub line_for : List Named → Named → Import → Line
line_for modules asker i = record {
  asker = asker.name;
  asked = i.asked;
  field = i.field;
  item = asked_item asker.body i.item;
  answer = answer_by (asked_item asker.body i.item) i.field (module_named modules i.asked);
}

-- those of each module, in order
abbrev pub all_lines : List Named → List Line
all_lines modules = flat_map (λ asker. map (line_for modules asker) asker.body.imports) modules

-- ---- the counts

-- a list with a value at its end, unless an equal one is there
abbrev pub with_value : {X : Type 0} → (X → X → Bool) → List X → X → List X
with_value eq xs x = if is_some (position (eq x) xs) then xs else xs ++ x ∷ []

-- a list without its repetitions: b, a, b is b, a
abbrev pub without_repetitions : {X : Type 0} → (X → X → Bool) → List X → List X
without_repetitions eq xs = fold (with_value eq) [] xs

-- the types of functions of all modules
abbrev pub all_types : List Named → List FuncType
all_types modules = flat_map (λ m. m.body.types) modules

-- the names of an import: that of the module that is asked, and that of its export
abbrev pub import_names : Import → List (List ℕ)
import_names i = i.asked ∷ i.field ∷ []

-- the names of a module: its own, those of its imports, and those of its exports
abbrev pub names_of : Named → List (List ℕ)
names_of m = m.name ∷ [] ++ flat_map import_names m.body.imports ++ map (λ e. e.name) m.body.exports

-- the names of all modules
abbrev pub all_names : List Named → List (List ℕ)
all_names modules = flat_map names_of modules

-- what linking finds out of modules
abbrev pub linked : List Named → Linked
linked modules = record {
  lines = all_lines modules;
  modules = length modules;
  types = length (all_types modules);
  distinct_types = length (without_repetitions func_type_eq (all_types modules));
  names = length (without_repetitions bytes_eq (all_names modules));
}

-- there are more modules, names or types of functions than have keys, or more entries of type sections than are
-- counted
abbrev pub IsPastKeys : Linked → Type 0
IsPastKeys l = (2 ^ 32 < l.modules) ⊎ (2 ^ 32 < l.names) ⊎ (2 ^ 32 < l.distinct_types) ⊎ (2 ^ 64 ≤ l.types)
