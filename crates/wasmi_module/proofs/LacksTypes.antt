-- Where no name and no type stands at the front of the bytes.
-- for src/values.rt
use Rattle.std.proofs.Common.{◌≡◌, ◌≢◌, ℕ, ◌<◌, ◌≤◌, length, List, [], ◌∷◌, ◌++◌, Bool, true, false, Option, Some, None, refl, sym, ap, subst, ◌∙◌, append_assoc, arith}
use Rattle.std.specs.Prelude.{IfSome, if◌then◌else◌}
use Rattle.std.specs.Str.{IsUtf8}
use Rattle.wasmi_module.specs.Texts.{Is, ◌⋅◌}
use Rattle.wasmi_module.specs.inner.Reading.{Reads, Lacks}
use Rattle.wasmi_module.specs.Numbers.{IsU32}
use Rattle.wasmi_module.specs.Format.{Byte, IsName, IsValType, IsRefType, kind_code, AreBounds, IsLimits, IsTableType, IsMemoryType, IsGlobalType, IsImportType}
use Rattle.wasmi_module.specs.declared.module.Limits.{Limits}
use Rattle.wasmi_module.specs.declared.module.ImportType.{ImportType}
use Rattle.wasmi_module.specs.declared.module.ImportType.TheVariants as import
use Rattle.wasmi_module.specs.declared.module.Kind.{Kind}
use Rattle.wasmi_module.specs.declared.module.Kind.TheVariants as kind
use Rattle.wasmi_module.proofs.OnceLemmas.{u32_once, sized_once}
use Rattle.wasmi_module.proofs.OnceItems.{val_type_once, ref_type_once, limits_once, import_tag, import_rest}
use Rattle.wasmi_module.proofs.LacksLemmas.{split, reads_once, not_first, not_then, not_byte, byte_is, not_byte_first, first_byte, not_after_byte, not_long, Tagged, lacks-tagged, byte_of, lacks-by}

-- ---- names

lacks-sized : {before : List ℕ} → Lacks (λ bytes. IsU32 (length bytes) ⋅ Is bytes) before → Lacks IsName before
lacks-sized lacks = lacks-by (λ (bytes : List ℕ). IsU32 (length bytes) ⋅ Is bytes) IsName (λ name. name) (λ name text h. h.written) lacks

pub lacks-name_len : {before : List ℕ} → Lacks IsU32 before → Lacks IsName before
lacks-name_len lacks = lacks-sized (record { none = λ name after h. not_first IsU32 lacks h })

pub lacks-name_bytes : (len : ℕ) {before : List ℕ} (mid : List ℕ) → Reads (IsU32 len) before mid → length mid < len → Lacks IsName before
lacks-name_bytes len {before} mid read short = lacks-sized (record {
  none = λ name after h.
      let s = split h in
      let same = reads_once IsU32 u32_once read s.first in
      let short_of : length s.mid < length name = subst (λ (t : List ℕ). length t < length name) same.1 (subst (λ (n : ℕ). length mid < n) same.0 short) in
      not_long name short_of s.second;
})

-- The bytes are no text.
pub lacks-name_utf8 : (len : ℕ) (bytes : List ℕ) {before : List ℕ} (mid after : List ℕ) → Reads (IsU32 len) before mid → mid ≡ bytes ++ after → length bytes ≡ len → (IsUtf8 bytes → ⊥) → Lacks IsName before
lacks-name_utf8 len bytes {before} mid after read parts same bad = record {
  none = λ name rest h.
      let known : Reads (IsU32 (length bytes)) before mid = subst (λ (n : ℕ). Reads (IsU32 n) before mid) (sym same) read in
      let it : Reads (λ text. (IsU32 (length bytes) ⋅ Is bytes) text) before after = record {
        text = known.text ++ bytes;
        is_text = record { front = known.text; back = bytes; parts = refl; first = known.is_text; second = refl };
        parts = known.parts ∙ ap (λ (t : List ℕ). known.text ++ t) parts ∙ sym (append_assoc known.text bytes after);
      } in
      let that : Reads (λ text. (IsU32 (length name) ⋅ Is name) text) before rest = record { text = h.text; is_text = h.is_text.written; parts = h.parts } in
      bad (subst IsUtf8 (sym (reads_once (λ (bytes : List ℕ). IsU32 (length bytes) ⋅ Is bytes) sized_once it that).0) h.is_text.utf8);
}

-- ---- limits

limits : {l : Limits} {before after : List ℕ} → Reads (IsLimits l) before after → Reads (AreBounds l.min l.max) before after
limits h = record { text = h.text; is_text = h.is_text.written; parts = h.parts }

no_byte : (min : ℕ) (max : Option ℕ) {before after : List ℕ} → before ≡ [] → Reads (AreBounds min max) before after → ⊥
no_byte min None none h = not_byte_first 0 none h
no_byte min (Some max) none h = not_byte_first 1 none h

pub lacks-limits_none : {before : List ℕ} → before ≡ [] → Lacks IsLimits before
lacks-limits_none none = record { none = λ l after h. no_byte l.min l.max none (limits h) }

no_min : (b min : ℕ) (max : Option ℕ) {before : List ℕ} (mid : List ℕ) {after : List ℕ} → before ≡ b ∷ mid → Lacks IsU32 mid → Reads (AreBounds min max) before after → ⊥
no_min b min None mid {after} is lacks h = not_after_byte 0 b mid is (lacks.none min after) h
no_min b min (Some max) mid is lacks h = not_after_byte 1 b mid is (not_first IsU32 lacks) h

pub lacks-limits_min : (b : ℕ) {before : List ℕ} (mid : List ℕ) → before ≡ b ∷ mid → Lacks IsU32 mid → Lacks IsLimits before
lacks-limits_min b mid is lacks = record { none = λ l after h. no_min b l.min l.max mid is lacks (limits h) }

no_max : (b least min : ℕ) (max : Option ℕ) {before : List ℕ} (mid next : List ℕ) {after : List ℕ} → b ≡ 1 → before ≡ b ∷ mid → Reads (IsU32 least) mid next → Lacks IsU32 next → Reads (AreBounds min max) before after → ⊥
no_max b least min None mid next one is read lacks h = absurd (omega (arith, first_byte 0 b mid is h))
no_max b least min (Some max) mid next {after} one is read lacks h = not_after_byte 1 b mid is (not_then IsU32 u32_once next read (lacks.none max after)) h

pub lacks-limits_max : (b least : ℕ) {before : List ℕ} (mid next : List ℕ) → b ≡ 1 → before ≡ b ∷ mid → Reads (IsU32 least) mid next → Lacks IsU32 next → Lacks IsLimits before
lacks-limits_max b least mid next one is read lacks = record { none = λ l after h. no_max b least l.min l.max mid next one is read lacks (limits h) }

no_order : (b least most min : ℕ) (max : Option ℕ) {before : List ℕ} (mid next end : List ℕ) {after : List ℕ} → b ≡ 1 → before ≡ b ∷ mid → Reads (IsU32 least) mid next → Reads (IsU32 most) next end → most < least → IfSome max (λ m. min ≤ m) → Reads (AreBounds min max) before after → ⊥
no_order b least most min None mid next end one is first second less order h = absurd (omega (arith, first_byte 0 b mid is h))
no_order b least most min (Some max) mid next end {after} one is first second less order h =
    let s = split (split h).second in
    let same = (byte_is 1 b mid is (split h).first).1 in
    let low = reads_once IsU32 u32_once first (subst (λ (t : List ℕ). Reads (IsU32 min) t s.mid) (sym same) s.first) in
    let high = reads_once IsU32 u32_once second (subst (λ (t : List ℕ). Reads (IsU32 max) t after) (sym low.1) s.second) in
    absurd (omega (arith, low.0, high.0, order, less))

pub lacks-limits_order : (b least most : ℕ) {before : List ℕ} (mid next end : List ℕ) → b ≡ 1 → before ≡ b ∷ mid → Reads (IsU32 least) mid next → Reads (IsU32 most) next end → most < least → Lacks IsLimits before
lacks-limits_order b least most mid next end one is first second less = record { none = λ l after h. no_order b least most l.min l.max mid next end one is first second less h.is_text.order (limits h) }

no_tag : (b min : ℕ) (max : Option ℕ) {before : List ℕ} (mid : List ℕ) {after : List ℕ} → before ≡ b ∷ mid → b ≢ 0 → b ≢ 1 → Reads (AreBounds min max) before after → ⊥
no_tag b min None mid is zero one h = zero (first_byte 0 b mid is h)
no_tag b min (Some max) mid is zero one h = one (first_byte 1 b mid is h)

pub lacks-limits_tag : (b : ℕ) {before : List ℕ} (mid : List ℕ) → before ≡ b ∷ mid → b ≢ 0 → b ≢ 1 → Lacks IsLimits before
lacks-limits_tag b mid is zero one = record { none = λ l after h. no_tag b l.min l.max mid is zero one (limits h) }

-- ---- tables, memories, globals

pub lacks-table_first : {before : List ℕ} → Lacks IsRefType before → Lacks IsTableType before
lacks-table_first lacks = record { none = λ ty after h. not_first IsRefType lacks h }

pub lacks-table_then : (ty : _) {before : List ℕ} (mid : List ℕ) → Reads (IsRefType ty) before mid → Lacks IsLimits mid → Lacks IsTableType before
lacks-table_then ty mid read lacks = record { none = λ ty after h. not_then IsRefType ref_type_once mid read (lacks.none ty.limits after) h }

pub lacks-memory : {before : List ℕ} → Lacks IsLimits before → Lacks IsMemoryType before
lacks-memory lacks = lacks-by IsLimits IsMemoryType (λ ty. ty.limits) (λ ty text h. h.written) lacks

pub lacks-memory_pages : (l : Limits) {before : List ℕ} (after : List ℕ) → Reads (IsLimits l) before after → ((l.min ≤ 65536) × IfSome l.max (λ max. max ≤ 65536) → ⊥) → Lacks IsMemoryType before
lacks-memory_pages l after read many = record {
  none = λ ty rest h.
      let it : Reads (IsLimits ty.limits) _ rest = record { text = h.text; is_text = h.is_text.written; parts = h.parts } in
      let same = reads_once IsLimits limits_once read it in
      many (subst (λ (k : Limits). (k.min ≤ 65536) × IfSome k.max (λ max. max ≤ 65536)) (sym same.0) h.is_text.pages);
}

pub lacks-global_first : {before : List ℕ} → Lacks IsValType before → Lacks IsGlobalType before
lacks-global_first lacks = record { none = λ ty after h. not_first IsValType lacks h }

pub lacks-global_none : (ty : _) {before : List ℕ} (mid : List ℕ) → Reads (IsValType ty) before mid → mid ≡ [] → Lacks IsGlobalType before
lacks-global_none ty mid read none = record { none = λ ty after h. not_then IsValType val_type_once mid read (not_byte (if ty.mutable then 1 else 0) none) h }

no_flag : (b : ℕ) (flag : Bool) → b ≢ 0 → b ≢ 1 → b ≡ (if flag then 1 else 0) → ⊥
no_flag b true zero one e = one e
no_flag b false zero one e = zero e

pub lacks-global_flag : (ty : _) (b : ℕ) {before : List ℕ} (mid after : List ℕ) → Reads (IsValType ty) before mid → mid ≡ b ∷ after → b ≢ 0 → b ≢ 1 → Lacks IsGlobalType before
lacks-global_flag ty b mid after read is zero one = record {
  none = λ ty rest h.
      not_then IsValType val_type_once mid read (λ flag. no_flag b ty.mutable zero one (byte_is (if ty.mutable then 1 else 0) b after is flag).0) h;
}

-- ---- what is imported

import_parts : Tagged IsImportType import_tag import_rest
import_parts (import.Func x) text h = h
import_parts (import.Table x) text h = h
import_parts (import.Memory x) text h = h
import_parts (import.Global x) text h = h

lacks-import : (k : ℕ) {before : List ℕ} (mid : List ℕ) → Reads (Is (k ∷ [])) before mid → ((t : ImportType) → import_tag t ≡ k → (after : List ℕ) → Reads (import_rest t) mid after → ⊥) → Lacks IsImportType before
lacks-import k mid read none = lacks-tagged IsImportType import_tag import_rest import_parts k mid (byte_of k read) none

no_kind : {before after : List ℕ} (t : ImportType) → Lacks (λ (k : Kind). Byte (kind_code k)) before → Reads (IsImportType t) before after → ⊥
no_kind (import.Func x) lacks h = lacks.none kind.Func _ (split h).first
no_kind (import.Table x) lacks h = lacks.none kind.Table _ (split h).first
no_kind (import.Memory x) lacks h = lacks.none kind.Memory _ (split h).first
no_kind (import.Global x) lacks h = lacks.none kind.Global _ (split h).first

pub lacks-import_kind : {before : List ℕ} → Lacks (λ (k : Kind). Byte (kind_code k)) before → Lacks IsImportType before
lacks-import_kind lacks = record { none = λ t after h. no_kind t lacks h }

no_func : {mid : List ℕ} (t : ImportType) → Lacks IsU32 mid → import_tag t ≡ 0 → (after : List ℕ) → Reads (import_rest t) mid after → ⊥
no_func (import.Func x) lacks e after h = lacks.none x after h
no_func t lacks e after h = absurd (omega arith)

pub lacks-import_func : {before : List ℕ} (mid : List ℕ) → Reads (Byte 0) before mid → Lacks IsU32 mid → Lacks IsImportType before
lacks-import_func mid read lacks = lacks-import 0 mid read (λ t. no_func t lacks)

no_table : {mid : List ℕ} (t : ImportType) → Lacks IsTableType mid → import_tag t ≡ 1 → (after : List ℕ) → Reads (import_rest t) mid after → ⊥
no_table (import.Table x) lacks e after h = lacks.none x after h
no_table t lacks e after h = absurd (omega arith)

pub lacks-import_table : {before : List ℕ} (mid : List ℕ) → Reads (Byte 1) before mid → Lacks IsTableType mid → Lacks IsImportType before
lacks-import_table mid read lacks = lacks-import 1 mid read (λ t. no_table t lacks)

no_memory : {mid : List ℕ} (t : ImportType) → Lacks IsMemoryType mid → import_tag t ≡ 2 → (after : List ℕ) → Reads (import_rest t) mid after → ⊥
no_memory (import.Memory x) lacks e after h = lacks.none x after h
no_memory t lacks e after h = absurd (omega arith)

pub lacks-import_memory : {before : List ℕ} (mid : List ℕ) → Reads (Byte 2) before mid → Lacks IsMemoryType mid → Lacks IsImportType before
lacks-import_memory mid read lacks = lacks-import 2 mid read (λ t. no_memory t lacks)

no_global : {mid : List ℕ} (t : ImportType) → Lacks IsGlobalType mid → import_tag t ≡ 3 → (after : List ℕ) → Reads (import_rest t) mid after → ⊥
no_global (import.Global x) lacks e after h = lacks.none x after h
no_global t lacks e after h = absurd (omega arith)

pub lacks-import_global : {before : List ℕ} (mid : List ℕ) → Reads (Byte 3) before mid → Lacks IsGlobalType mid → Lacks IsImportType before
lacks-import_global mid read lacks = lacks-import 3 mid read (λ t. no_global t lacks)
