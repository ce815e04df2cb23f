-- What linking says of modules, in lists, numbers and bytes.
use Rattle.std.specs.Prelude.{ℕ, List, map}
use Rattle.wasmi_module.specs.Modules.{FuncType}
use Rattle.wasmi_module.specs.Views.{func_type_of}
use Rattle.wasmi_module.specs.declared.module.TableType.{TableType}
use Rattle.wasmi_module.specs.declared.module.MemoryType.{MemoryType}
use Rattle.wasmi_module.specs.declared.module.GlobalType.{GlobalType}
use Rattle.wasmi_link_lib.specs.declared.line.ItemType as rust_item
use Rattle.wasmi_link_lib.specs.declared.line.ItemType.TheVariants as item
use Rattle.wasmi_link_lib.specs.declared.line.Answer as rust_answer
use Rattle.wasmi_link_lib.specs.declared.line.Answer.TheVariants as answer
use Rattle.wasmi_link_lib.specs.declared.line.Line as rust_line
use Rattle.wasmi_link_lib.specs.declared.line.Linked as rust_linked

-- the type of what is imported or exported
pub data ItemType : Type 0 where
  Func : FuncType → ItemType
  Table : TableType → ItemType
  Memory : MemoryType → ItemType
  Global : GlobalType → ItemType

-- what became of an import: the module of this name gives it; there is no such export; or the module
-- of this name has one, which is of another type
pub data Answer : Type 0 where
  Found : List ℕ → Answer
  Missing : Answer
  Differs : List ℕ → ItemType → Answer

-- an import with its answer: the module of the name `asker` asks that of the name `asked` for its
-- export `field`, which is to be of this type
pub record Line : Type 0 where
  pub asker : List ℕ
  pub asked : List ℕ
  pub field : List ℕ
  pub item : ItemType
  pub answer : Answer

-- all imports of all modules; how many modules there are, entries of their type sections, types of
-- functions among these, and names
pub record Linked : Type 0 where
  pub lines : List Line
  pub modules : ℕ
  pub types : ℕ
  pub distinct_types : ℕ
  pub names : ℕ

-- a type without where it lies in memory,
abbrev pub item_of : {A : Type 0} → rust_item.ItemType A → ItemType
item_of (item.Func type) = Func (func_type_of type.now)
item_of (item.Table type) = Table type
item_of (item.Memory type) = Memory type
item_of (item.Global type) = Global type

-- an answer,
abbrev pub answer_of : {A : Type 0} → rust_answer.Answer A → Answer
answer_of (answer.Found name) = Found name.now
answer_of answer.Missing = Missing
answer_of (answer.Differs name type) = Differs name.now (item_of type)

-- an import with its answer,
abbrev pub line_of : {A : Type 0} → rust_line.Line A → Line
line_of line = record {
  asker = line.asker.now;
  asked = line.asked.now;
  field = line.field.now;
  item = item_of line.item;
  answer = answer_of line.answer;
}

-- and all that linking finds out
abbrev pub linked_of : {A : Type 0} → rust_linked.Linked A → Linked
linked_of linked = record {
  lines = map line_of linked.lines.items;
  modules = linked.modules;
  types = linked.types;
  distinct_types = linked.distinct_types;
  names = linked.names;
}
