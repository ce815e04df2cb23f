-- What a module says of itself, in lists, numbers and bytes.
use Rattle.std.specs.Prelude.{ℕ, ℤ, List}
use Rattle.wasmi_module.specs.declared.module.ValType.{ValType}
use Rattle.wasmi_module.specs.declared.module.RefType.{RefType}
use Rattle.wasmi_module.specs.declared.module.TableType.{TableType}
use Rattle.wasmi_module.specs.declared.module.MemoryType.{MemoryType}
use Rattle.wasmi_module.specs.declared.module.GlobalType.{GlobalType}
use Rattle.wasmi_module.specs.declared.module.ImportType.{ImportType}
use Rattle.wasmi_module.specs.declared.module.Kind.{Kind}

-- the type of a function
pub record FuncType : Type 0 where
  pub params : List ValType
  pub results : List ValType

-- what a module asks for
pub record Import : Type 0 where
  -- the names of the module that is asked, and of its export
  pub asked : List ℕ
  pub field : List ℕ
  pub item : ImportType

-- the first value of a global; of floats and vectors the bytes
pub data Init : Type 0 where
  I32 : ℤ → Init
  I64 : ℤ → Init
  F32 : List ℕ → Init
  F64 : List ℕ → Init
  V128 : List ℕ → Init
  RefNull : RefType → Init
  RefFunc : ℕ → Init
  GlobalGet : ℕ → Init

-- a global
pub record Global : Type 0 where
  pub ty : GlobalType
  pub init : Init

-- what others may ask for
pub record Export : Type 0 where
  pub name : List ℕ
  pub kind : Kind
  -- among the module's items of this kind, those that it imports first
  pub index : ℕ

-- its types, what it asks for, what it has of its own, and what others may ask for
pub record Module : Type 0 where
  pub types : List FuncType
  pub imports : List Import
  -- the index of the type of each function of its own
  pub functions : List ℕ
  -- its own tables, memories and globals
  pub tables : List TableType
  pub memories : List MemoryType
  pub globals : List Global
  pub exports : List Export
