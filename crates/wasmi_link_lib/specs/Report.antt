-- The text of a report, in bytes.
use Rattle.std.specs.Prelude.{ℕ, Bool, true, false, List, [], ◌∷◌, ◌++◌, length, if◌then◌else◌, Option, Some, None, codes, decimal}
use Rattle.std.specs.Char.{is_control, encode_utf8}
use Rattle.std.specs.Fmt.{digits}
use Rattle.std.specs.List.{count_by, flat_map, list_all}
use Rattle.std.specs.Str.{chars}
use Rattle.wasmi_module.specs.declared.module.ValType.{ValType}
use Rattle.wasmi_module.specs.declared.module.ValType.TheVariants as val
use Rattle.wasmi_module.specs.declared.module.RefType.{RefType}
use Rattle.wasmi_module.specs.declared.module.RefType.TheVariants as ref
use Rattle.wasmi_module.specs.declared.module.Limits.{Limits}
use Rattle.wasmi_link_lib.specs.Lines.{ItemType, Func, Table, Memory, Global, Answer, Found, Missing, Differs, Line, Linked}

-- a character of a name: a control character as its number in hexadecimal, any other one as it is.
-- Of a line feed: `\u{a}`.
abbrev pub char_text : ℕ → List ℕ
char_text c = if is_control c then 92 ∷ codes "u{" ++ digits 16 false c ++ codes "}" else encode_utf8 c

abbrev pub name_text : List ℕ → List ℕ
name_text name = flat_map char_text (chars name)

abbrev pub val_type_text : ValType → List ℕ
val_type_text val.I32 = codes "i32"
val_type_text val.I64 = codes "i64"
val_type_text val.F32 = codes "f32"
val_type_text val.F64 = codes "f64"
val_type_text val.V128 = codes "v128"
val_type_text val.FuncRef = codes "funcref"
val_type_text val.ExternRef = codes "externref"

abbrev pub ref_type_text : RefType → List ℕ
ref_type_text ref.FuncRef = codes "funcref"
ref_type_text ref.ExternRef = codes "externref"

-- in parentheses, with a space between two: `()`, `(i32)`, `(i32 f64)`
abbrev pub tuple_text : List ValType → List ℕ
tuple_text [] = codes "()"
tuple_text (type ∷ types) = codes "(" ++ val_type_text type ++ flat_map (λ t. codes " " ++ val_type_text t) types ++ codes ")"

-- one result without parentheses
abbrev pub results_text : List ValType → List ℕ
results_text [] = codes "()"
results_text (type ∷ []) = val_type_text type
results_text (type ∷ next ∷ types) = tuple_text (type ∷ next ∷ types)

-- the most, if there is one
abbrev pub most_text : Option ℕ → List ℕ
most_text (Some max) = decimal max
most_text None = []

-- `1..4`, or `1..` without a most
abbrev pub limits_text : Limits → List ℕ
limits_text limits = decimal limits.min ++ codes ".." ++ most_text limits.max

abbrev pub kind_text : ItemType → List ℕ
kind_text (Func type) = codes "func"
kind_text (Table type) = codes "table"
kind_text (Memory type) = codes "memory"
kind_text (Global type) = codes "global"

-- `(i32 i32) -> ()` of a function, `funcref 1..4` of a table, `1..4` of a memory, `mut i32` of a global
abbrev pub type_text : ItemType → List ℕ
type_text (Func type) = tuple_text type.params ++ codes " -> " ++ results_text type.results
type_text (Table type) = ref_type_text type.element ++ codes " " ++ limits_text type.limits
type_text (Memory type) = limits_text type.limits
type_text (Global type) = (if type.mutable then codes "mut " else []) ++ val_type_text type.value

abbrev pub is_same_kind : ItemType → ItemType → Bool
is_same_kind (Func asked) (Func given) = true
is_same_kind (Table asked) (Table given) = true
is_same_kind (Memory asked) (Memory given) = true
is_same_kind (Global asked) (Global given) = true
is_same_kind asked given = false

-- a kind and a type: `memory 1..4`
abbrev pub item_text : ItemType → List ℕ
item_text item = kind_text item ++ codes " " ++ type_text item

-- what there is in place of what is asked: without its kind where that is the one asked for
abbrev pub given_text : ItemType → ItemType → List ℕ
given_text asked given = if is_same_kind asked given then type_text given else item_text given

-- `env`, `missing`, or `env has memory 1..4`
abbrev pub answer_text : ItemType → Answer → List ℕ
answer_text asked (Found name) = name_text name
answer_text asked Missing = codes "missing"
answer_text asked (Differs name given) = name_text name ++ codes " has " ++ given_text asked given

-- `app: memory env.memory 2..: env`
abbrev pub line_text : Line → List ℕ
line_text line =
    name_text line.asker ++ codes ": " ++ kind_text line.item ++ codes " " ++ name_text line.asked
    ++ codes "." ++ name_text line.field ++ codes " " ++ type_text line.item ++ codes ": "
    ++ answer_text line.item line.answer

abbrev pub is_found : Answer → Bool
is_found (Found name) = true
is_found Missing = false
is_found (Differs name given) = false

abbrev pub is_missing : Answer → Bool
is_missing (Found name) = false
is_missing Missing = true
is_missing (Differs name given) = false

abbrev pub is_different : Answer → Bool
is_different (Found name) = false
is_different Missing = false
is_different (Differs name given) = true

-- how many lines have such an answer
abbrev pub answered : (Answer → Bool) → List Line → ℕ
answered test lines = count_by (λ line. test line.answer) lines

-- `2 modules, 4 types of 5, 8 names, 5 imports: 2 found, 1 missing, 2 differs`
abbrev pub counts_text : Linked → List ℕ
counts_text linked =
    decimal linked.modules ++ codes " modules, " ++ decimal linked.distinct_types ++ codes " types of "
    ++ decimal linked.types ++ codes ", " ++ decimal linked.names ++ codes " names, "
    ++ decimal (length linked.lines) ++ codes " imports: " ++ decimal (answered is_found linked.lines)
    ++ codes " found, " ++ decimal (answered is_missing linked.lines) ++ codes " missing, "
    ++ decimal (answered is_different linked.lines) ++ codes " differs"

-- the lines of the imports and that of the counts, each ended by a line feed
abbrev pub report_text : Linked → List ℕ
report_text linked = flat_map (λ line. line_text line ++ 10 ∷ []) linked.lines ++ (counts_text linked ++ 10 ∷ [])

-- the exit status of a report: 0 where all imports are found
abbrev pub status_of : Linked → ℕ
status_of linked = if list_all (λ line. is_found line.answer) linked.lines then 0 else 1
