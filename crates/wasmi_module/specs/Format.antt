-- How what a module says of itself is written, as the binary format of WebAssembly has it.
use Rattle.std.specs.Prelude.{◌≡◌, ℕ, ◌≤◌, List, [], ◌∷◌, length, Option, Some, None, IfSome, if◌then◌else◌}
use Rattle.std.specs.Str.{IsUtf8}
use Rattle.wasmi_module.specs.Texts.{Is, ◌⋅◌, Each}
use Rattle.wasmi_module.specs.Numbers.{IsU32, IsI32, IsI64}
use Rattle.wasmi_module.specs.Modules.{FuncType, Import, Init, I32, I64, F32, F64, V128, RefNull, RefFunc, GlobalGet, Global, Export}
use Rattle.wasmi_module.specs.declared.module.ValType.{ValType}
use Rattle.wasmi_module.specs.declared.module.ValType.TheVariants as val
use Rattle.wasmi_module.specs.declared.module.RefType.{RefType}
use Rattle.wasmi_module.specs.declared.module.RefType.TheVariants as ref
use Rattle.wasmi_module.specs.declared.module.Limits.{Limits}
use Rattle.wasmi_module.specs.declared.module.TableType.{TableType}
use Rattle.wasmi_module.specs.declared.module.MemoryType.{MemoryType}
use Rattle.wasmi_module.specs.declared.module.GlobalType.{GlobalType}
use Rattle.wasmi_module.specs.declared.module.ImportType.{ImportType}
use Rattle.wasmi_module.specs.declared.module.ImportType.TheVariants as import
use Rattle.wasmi_module.specs.declared.module.Kind.{Kind}
use Rattle.wasmi_module.specs.declared.module.Kind.TheVariants as kind

-- this byte
abbrev pub Byte : ℕ → List ℕ → Type 0
Byte b = Is (b ∷ [])

-- these bytes, which are so many
pub record IsBytes (count : ℕ) (bytes text : List ℕ) : Type 0 where
  pub len : length bytes ≡ count
  pub written : Is bytes text

-- how many items, and then the items
abbrev pub IsVector : {X : Type 0} → (X → List ℕ → Type 0) → List X → List ℕ → Type 0
IsVector Writes xs = IsU32 (length xs) ⋅ Each Writes xs

-- how many bytes, and then the bytes, in UTF-8
pub record IsName (name text : List ℕ) : Type 0 where
  pub utf8 : IsUtf8 name
  pub written : (IsU32 (length name) ⋅ Is name) text

abbrev pub val_type_code : ValType → ℕ
val_type_code val.I32 = 127
val_type_code val.I64 = 126
val_type_code val.F32 = 125
val_type_code val.F64 = 124
val_type_code val.V128 = 123
val_type_code val.FuncRef = 112
val_type_code val.ExternRef = 111

-- the byte of a value type: 7F of i32
abbrev pub IsValType : ValType → List ℕ → Type 0
IsValType type = Byte (val_type_code type)

abbrev pub ref_type_code : RefType → ℕ
ref_type_code ref.FuncRef = 112
ref_type_code ref.ExternRef = 111

abbrev pub IsRefType : RefType → List ℕ → Type 0
IsRefType type = Byte (ref_type_code type)

-- the byte 60, the types of the parameters and those of the results: 60 01 7F 00 of a function that
-- takes an i32 and returns nothing
abbrev pub IsFuncType : FuncType → List ℕ → Type 0
IsFuncType type = Byte 96 ⋅ IsVector IsValType type.params ⋅ IsVector IsValType type.results

-- the least, and the most if there is one
abbrev pub AreBounds : ℕ → Option ℕ → List ℕ → Type 0
AreBounds min None = Byte 0 ⋅ IsU32 min
AreBounds min (Some max) = Byte 1 ⋅ IsU32 min ⋅ IsU32 max

pub record IsLimits (limits : Limits) (text : List ℕ) : Type 0 where
  pub order : IfSome limits.max (λ max. limits.min ≤ max)
  pub written : AreBounds limits.min limits.max text

-- the type of its elements, and its limits: 70 00 01 of a table of one function at least
abbrev pub IsTableType : TableType → List ℕ → Type 0
IsTableType type = IsRefType type.element ⋅ IsLimits type.limits

-- in pages of 65,536 bytes, of which there are at most 65,536
pub record IsMemoryType (type : MemoryType) (text : List ℕ) : Type 0 where
  pub pages : (type.limits.min ≤ 65536) × IfSome type.limits.max (λ max. max ≤ 65536)
  pub written : IsLimits type.limits text

abbrev pub IsGlobalType : GlobalType → List ℕ → Type 0
IsGlobalType type = IsValType type.value ⋅ Byte (if type.mutable then 1 else 0)

abbrev pub IsImportType : ImportType → List ℕ → Type 0
IsImportType (import.Func index) = Byte 0 ⋅ IsU32 index
IsImportType (import.Table type) = Byte 1 ⋅ IsTableType type
IsImportType (import.Memory type) = Byte 2 ⋅ IsMemoryType type
IsImportType (import.Global type) = Byte 3 ⋅ IsGlobalType type

-- the names of the module that is asked and of its export, and what this is to be: 01 68 01 69 00 02
-- of the function i of the module h, which is to have type 2
abbrev pub IsImport : Import → List ℕ → Type 0
IsImport item = IsName item.asked ⋅ IsName item.field ⋅ IsImportType item.item

-- one constant instruction
abbrev pub IsConstant : Init → List ℕ → Type 0
IsConstant (I32 n) = Byte 65 ⋅ IsI32 n
IsConstant (I64 n) = Byte 66 ⋅ IsI64 n
IsConstant (F32 bytes) = Byte 67 ⋅ IsBytes 4 bytes
IsConstant (F64 bytes) = Byte 68 ⋅ IsBytes 8 bytes
IsConstant (V128 bytes) = Byte 253 ⋅ IsU32 12 ⋅ IsBytes 16 bytes
IsConstant (RefNull type) = Byte 208 ⋅ IsRefType type
IsConstant (RefFunc index) = Byte 210 ⋅ IsU32 index
IsConstant (GlobalGet index) = Byte 35 ⋅ IsU32 index

-- its type, a constant instruction, and the instruction `end`
abbrev pub IsGlobal : Global → List ℕ → Type 0
IsGlobal item = IsGlobalType item.ty ⋅ IsConstant item.init ⋅ Byte 11

abbrev pub kind_code : Kind → ℕ
kind_code kind.Func = 0
kind_code kind.Table = 1
kind_code kind.Memory = 2
kind_code kind.Global = 3

-- its name, the byte of its kind, and its index: 01 68 00 02 of function 2 under the name h
abbrev pub IsExport : Export → List ℕ → Type 0
IsExport item = IsName item.name ⋅ Byte (kind_code item.kind) ⋅ IsU32 item.index
