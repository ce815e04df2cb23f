-- A decoded module without where it lies in memory.
use Rattle.std.specs.Prelude.{map}
use Rattle.wasmi_module.specs.declared.module.FuncType as rust_func
use Rattle.wasmi_module.specs.declared.module.Import as rust_import
use Rattle.wasmi_module.specs.declared.module.Init as rust_init
use Rattle.wasmi_module.specs.declared.module.Init.TheVariants as init
use Rattle.wasmi_module.specs.declared.module.Global as rust_global
use Rattle.wasmi_module.specs.declared.module.Export as rust_export
use Rattle.wasmi_module.specs.declared.module.Module as rust_module
use Rattle.wasmi_module.specs.Modules.{FuncType, Import, Init, Global, Export, Module}
use Rattle.wasmi_module.specs.Modules as plain

-- a function's type as two lists
abbrev pub func_type_of : {A : Type 0} → rust_func.FuncType A → FuncType
func_type_of f = record { params = f.params.items; results = f.results.items }

-- an import with its names as bytes
abbrev pub import_of : rust_import.Import → Import
import_of i = record { asked = i.module.now; field = i.field.now; item = i.item }

abbrev pub init_of : rust_init.Init → Init
init_of (init.I32 n) = plain.I32 n
init_of (init.I64 n) = plain.I64 n
init_of (init.F32 bytes) = plain.F32 bytes.now
init_of (init.F64 bytes) = plain.F64 bytes.now
init_of (init.V128 bytes) = plain.V128 bytes.now
init_of (init.RefNull type) = plain.RefNull type
init_of (init.RefFunc index) = plain.RefFunc index
init_of (init.GlobalGet index) = plain.GlobalGet index

-- a global with its first value
abbrev pub global_of : rust_global.Global → Global
global_of g = record { ty = g.ty; init = init_of g.init }

-- an export with its name as bytes
abbrev pub export_of : rust_export.Export → Export
export_of e = record { name = e.name.now; kind = e.kind; index = e.index }

-- the plain module of a decoded one
abbrev pub module_of : {A : Type 0} → rust_module.Module A → Module
module_of m = record {
  types = map func_type_of m.types.items;
  imports = map import_of m.imports.items;
  functions = m.functions.items;
  tables = m.tables.items;
  memories = m.memories.items;
  globals = map global_of m.globals.items;
  exports = map export_of m.exports.items;
}
