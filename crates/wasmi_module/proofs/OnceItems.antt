-- No writing of an item of a module begins that of another.
-- for src/laws.rt, src/constants.rt, src/items.rt, src/values.rt
use Rattle.std.proofs.Common.{◌≡◌, ℕ, List, [], ◌∷◌, ◌++◌, Option, Some, None, Bool, true, false, refl, ap, ◌∙◌, arith}
use Rattle.std.specs.Prelude.{◌^◌, ◌==◌, if◌then◌else◌}
use Rattle.wasmi_module.specs.Texts.{Is, ◌⋅◌}
use Rattle.wasmi_module.specs.Numbers.{IsU32, IsI32, IsI64}
use Rattle.wasmi_module.specs.Modules.{FuncType, Import, Init, Global, Export}
use Rattle.wasmi_module.specs.Modules as plain
use Rattle.wasmi_module.specs.Format.{Byte, IsBytes, IsVector, IsName, val_type_code, IsValType, ref_type_code, IsRefType, IsFuncType, AreBounds, IsLimits, IsTableType, IsMemoryType, IsGlobalType, IsImportType, IsImport, IsConstant, IsGlobal, kind_code, IsExport}
use Rattle.wasmi_module.specs.declared.module.ValType.{ValType}
use Rattle.wasmi_module.specs.declared.module.ValType.TheVariants as val
use Rattle.wasmi_module.specs.declared.module.RefType.{RefType}
use Rattle.wasmi_module.specs.declared.module.RefType.TheVariants as ref
use Rattle.wasmi_module.specs.declared.module.Limits.{Limits}
use Rattle.wasmi_module.specs.declared.module.MemoryType.{MemoryType}
use Rattle.wasmi_module.specs.declared.module.GlobalType.{GlobalType}
use Rattle.wasmi_module.specs.declared.module.ImportType.{ImportType}
use Rattle.wasmi_module.specs.declared.module.ImportType.TheVariants as import
use Rattle.wasmi_module.specs.declared.module.Kind.{Kind}
use Rattle.wasmi_module.specs.declared.module.Kind.TheVariants as kind
use Rattle.wasmi_module.proofs.LawLemmas.{signed_once}
use Rattle.wasmi_module.proofs.OnceLemmas.{Once, once_then, once_by, byte_once, tags_same, after_byte_once, before_byte_once, u32_once, vector_once, bytes_once, name_once}

-- ---- codes

val_type_from : ℕ → ValType
val_type_from n =
    if n == 127 then val.I32 else if n == 126 then val.I64 else if n == 125 then val.F32 else if n == 124 then val.F64
    else if n == 123 then val.V128 else if n == 112 then val.FuncRef else val.ExternRef

val_type_back : (type : ValType) → val_type_from (val_type_code type) ≡ type
unfolding val_type_from
val_type_back val.I32 = refl
val_type_back val.I64 = refl
val_type_back val.F32 = refl
val_type_back val.F64 = refl
val_type_back val.V128 = refl
val_type_back val.FuncRef = refl
val_type_back val.ExternRef = refl

pub val_type_once : Once IsValType
val_type_once = once_by val_type_code val_type_from (λ n. Is (n ∷ [])) val_type_back byte_once

ref_type_from : ℕ → RefType
ref_type_from n = if n == 112 then ref.FuncRef else ref.ExternRef

ref_type_back : (type : RefType) → ref_type_from (ref_type_code type) ≡ type
unfolding ref_type_from
ref_type_back ref.FuncRef = refl
ref_type_back ref.ExternRef = refl

pub ref_type_once : Once IsRefType
ref_type_once = once_by ref_type_code ref_type_from (λ n. Is (n ∷ [])) ref_type_back byte_once

kind_from : ℕ → Kind
kind_from n = if n == 0 then kind.Func else if n == 1 then kind.Table else if n == 2 then kind.Memory else kind.Global

kind_back : (k : Kind) → kind_from (kind_code k) ≡ k
unfolding kind_from
kind_back kind.Func = refl
kind_back kind.Table = refl
kind_back kind.Memory = refl
kind_back kind.Global = refl

pub kind_once : Once (λ k. Byte (kind_code k))
kind_once = once_by kind_code kind_from (λ n. Is (n ∷ [])) kind_back byte_once

flag_back : (b : Bool) → ((if b then 1 else 0) == 1) ≡ b
flag_back true = refl
flag_back false = refl

flag_once : Once (λ b. Byte (if b then 1 else 0))
flag_once = once_by (λ b. if b then 1 else 0) (λ n. n == 1) (λ n. Is (n ∷ [])) flag_back byte_once

-- ---- types

pub func_type_once : Once IsFuncType
func_type_once =
    once_by (λ f. (f.params, f.results)) (λ p. record { params = p.0; results = p.1 }) (λ (p : List ValType × List ValType). Byte 96 ⋅ IsVector IsValType p.0 ⋅ IsVector IsValType p.1) (λ f. refl)
    (after_byte_once 96 (λ (p : List ValType × List ValType). IsVector IsValType p.0 ⋅ IsVector IsValType p.1)
    (once_then (IsVector IsValType) (IsVector IsValType) (vector_once IsValType val_type_once) (vector_once IsValType val_type_once)))

both_once : Once (λ (p : ℕ × ℕ). Byte 1 ⋅ IsU32 p.0 ⋅ IsU32 p.1)
both_once = after_byte_once 1 (λ (p : ℕ × ℕ). IsU32 p.0 ⋅ IsU32 p.1) (once_then IsU32 IsU32 u32_once u32_once)

bounds_once : (m n : ℕ) (o r : Option ℕ) (a b u v : List ℕ) → AreBounds m o a → AreBounds n r b → a ++ u ≡ b ++ v → (m ≡ n) × (o ≡ r) × (a ≡ b)
bounds_once m n None None a b u v p q e = let s = after_byte_once 0 IsU32 u32_once m n a b u v p q e in (s.0, refl, s.1)
bounds_once m n None (Some y) a b u v p q e = absurd (omega (arith, tags_same 0 1 (IsU32 m) (IsU32 n ⋅ IsU32 y) a b u v p q e))
bounds_once m n (Some x) None a b u v p q e = absurd (omega (arith, tags_same 1 0 (IsU32 m ⋅ IsU32 x) (IsU32 n) a b u v p q e))
bounds_once m n (Some x) (Some y) a b u v p q e = let s = both_once (m, x) (n, y) a b u v p q e in (ap (λ z. z.0) s.0, ap (λ z. Some z.1) s.0, s.1)

pub limits_once : Once IsLimits
limits_once x y a b u v p q e =
    let r = bounds_once x.min y.min x.max y.max a b u v p.written q.written e in
    let made : ℕ → Option ℕ → Limits = λ min max. record { min = min; max = max } in
    (ap (λ m. made m x.max) r.0 ∙ ap (λ m. made y.min m) r.1, r.2)

pub table_type_once : Once IsTableType
table_type_once =
    once_by (λ t. (t.element, t.limits)) (λ p. record { element = p.0; limits = p.1 }) (λ (p : RefType × Limits). IsRefType p.0 ⋅ IsLimits p.1) (λ t. refl)
    (once_then IsRefType IsLimits ref_type_once limits_once)

pub memory_type_once : Once IsMemoryType
memory_type_once x y a b u v p q e =
    let r = limits_once x.limits y.limits a b u v p.written q.written e in
    let made : Limits → MemoryType = λ l. record { limits = l } in
    (ap made r.0, r.1)

pub global_type_once : Once IsGlobalType
global_type_once =
    once_by (λ t. (t.value, t.mutable)) (λ p. record { value = p.0; mutable = p.1 }) (λ (p : ValType × Bool). IsValType p.0 ⋅ Byte (if p.1 then 1 else 0)) (λ t. refl)
    (once_then IsValType (λ b. Byte (if b then 1 else 0)) val_type_once flag_once)

abbrev pub import_tag : ImportType → ℕ
import_tag (import.Func x) = 0
import_tag (import.Table x) = 1
import_tag (import.Memory x) = 2
import_tag (import.Global x) = 3

abbrev pub import_rest : ImportType → List ℕ → Type 0
import_rest (import.Func x) = IsU32 x
import_rest (import.Table x) = IsTableType x
import_rest (import.Memory x) = IsMemoryType x
import_rest (import.Global x) = IsGlobalType x

pub import_type_once : Once IsImportType
import_type_once (import.Func x) (import.Func y) a b u v p q e = let r = after_byte_once 0 (IsU32) (u32_once) x y a b u v p q e in (ap import.Func r.0, r.1)
import_type_once (import.Table x) (import.Table y) a b u v p q e = let r = after_byte_once 1 (IsTableType) (table_type_once) x y a b u v p q e in (ap import.Table r.0, r.1)
import_type_once (import.Memory x) (import.Memory y) a b u v p q e = let r = after_byte_once 2 (IsMemoryType) (memory_type_once) x y a b u v p q e in (ap import.Memory r.0, r.1)
import_type_once (import.Global x) (import.Global y) a b u v p q e = let r = after_byte_once 3 (IsGlobalType) (global_type_once) x y a b u v p q e in (ap import.Global r.0, r.1)
import_type_once x y a b u v p q e = absurd (omega (arith, tags_same (import_tag x) (import_tag y) (import_rest x) (import_rest y) a b u v p q e))

pub import_once : Once IsImport
import_once =
    once_by (λ i. (i.asked, (i.field, i.item))) (λ p. record { asked = p.0; field = p.1.0; item = p.1.1 }) (λ (p : List ℕ × (List ℕ × ImportType)). IsName p.0 ⋅ (IsName p.1.0 ⋅ IsImportType p.1.1)) (λ i. refl)
    (once_then IsName (λ (p : List ℕ × ImportType). IsName p.0 ⋅ IsImportType p.1) name_once (once_then IsName IsImportType name_once import_type_once))

pub export_once : Once IsExport
export_once =
    once_by (λ x. (x.name, (x.kind, x.index))) (λ p. record { name = p.0; kind = p.1.0; index = p.1.1 }) (λ (p : List ℕ × (Kind × ℕ)). IsName p.0 ⋅ (Byte (kind_code p.1.0) ⋅ IsU32 p.1.1)) (λ x. refl)
    (once_then IsName (λ (p : Kind × ℕ). Byte (kind_code p.0) ⋅ IsU32 p.1) name_once (once_then (λ k. Byte (kind_code k)) IsU32 kind_once u32_once))

-- ---- first values of globals

i32_once : Once IsI32
i32_once m n a b u v p q e = let r = signed_once (2 ^ 31) m n a b u v p q e in (r.1, r.0)

i64_once : Once IsI64
i64_once m n a b u v p q e = let r = signed_once (2 ^ 63) m n a b u v p q e in (r.1, r.0)

pub v128_once : Once (λ bytes. IsU32 12 ⋅ IsBytes 16 bytes)
v128_once x y a b u v p q e =
    let r = once_then IsU32 (IsBytes 16) u32_once (bytes_once 16) (12, x) (12, y) a b u v p q e in
    (ap (λ z. z.1) r.0, r.1)

abbrev pub constant_tag : Init → ℕ
constant_tag (plain.I32 x) = 65
constant_tag (plain.I64 x) = 66
constant_tag (plain.F32 x) = 67
constant_tag (plain.F64 x) = 68
constant_tag (plain.V128 x) = 253
constant_tag (plain.RefNull x) = 208
constant_tag (plain.RefFunc x) = 210
constant_tag (plain.GlobalGet x) = 35

abbrev pub constant_rest : Init → List ℕ → Type 0
constant_rest (plain.I32 x) = IsI32 x
constant_rest (plain.I64 x) = IsI64 x
constant_rest (plain.F32 x) = IsBytes 4 x
constant_rest (plain.F64 x) = IsBytes 8 x
constant_rest (plain.V128 x) = IsU32 12 ⋅ IsBytes 16 x
constant_rest (plain.RefNull x) = IsRefType x
constant_rest (plain.RefFunc x) = IsU32 x
constant_rest (plain.GlobalGet x) = IsU32 x

pub constant_once : Once IsConstant
constant_once (plain.I32 x) (plain.I32 y) a b u v p q e = let r = after_byte_once 65 (IsI32) (i32_once) x y a b u v p q e in (ap plain.I32 r.0, r.1)
constant_once (plain.I64 x) (plain.I64 y) a b u v p q e = let r = after_byte_once 66 (IsI64) (i64_once) x y a b u v p q e in (ap plain.I64 r.0, r.1)
constant_once (plain.F32 x) (plain.F32 y) a b u v p q e = let r = after_byte_once 67 (IsBytes 4) (bytes_once 4) x y a b u v p q e in (ap plain.F32 r.0, r.1)
constant_once (plain.F64 x) (plain.F64 y) a b u v p q e = let r = after_byte_once 68 (IsBytes 8) (bytes_once 8) x y a b u v p q e in (ap plain.F64 r.0, r.1)
constant_once (plain.V128 x) (plain.V128 y) a b u v p q e = let r = after_byte_once 253 (λ bytes. IsU32 12 ⋅ IsBytes 16 bytes) (v128_once) x y a b u v p q e in (ap plain.V128 r.0, r.1)
constant_once (plain.RefNull x) (plain.RefNull y) a b u v p q e = let r = after_byte_once 208 (IsRefType) (ref_type_once) x y a b u v p q e in (ap plain.RefNull r.0, r.1)
constant_once (plain.RefFunc x) (plain.RefFunc y) a b u v p q e = let r = after_byte_once 210 (IsU32) (u32_once) x y a b u v p q e in (ap plain.RefFunc r.0, r.1)
constant_once (plain.GlobalGet x) (plain.GlobalGet y) a b u v p q e = let r = after_byte_once 35 (IsU32) (u32_once) x y a b u v p q e in (ap plain.GlobalGet r.0, r.1)
constant_once x y a b u v p q e = absurd (omega (arith, tags_same (constant_tag x) (constant_tag y) (constant_rest x) (constant_rest y) a b u v p q e))

pub global_once : Once IsGlobal
global_once =
    once_by (λ g. (g.ty, g.init)) (λ p. record { ty = p.0; init = p.1 }) (λ (p : GlobalType × Init). IsGlobalType p.0 ⋅ (IsConstant p.1 ⋅ Byte 11)) (λ g. refl)
    (once_then IsGlobalType (λ i. IsConstant i ⋅ Byte 11) global_type_once (before_byte_once 11 IsConstant constant_once))
