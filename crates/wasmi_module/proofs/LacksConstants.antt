-- Where no constant instruction stands at the front of the bytes.
-- for src/constants.rt
use Rattle.std.proofs.Common.{◌≡◌, ◌≢◌, ℕ, ◌<◌, length, List, [], ◌∷◌, sym, ◌∙◌, arith}
use Rattle.wasmi_module.specs.Texts.{◌⋅◌}
use Rattle.wasmi_module.specs.inner.Reading.{Reads, Lacks}
use Rattle.wasmi_module.specs.Numbers.{IsU32, IsI32, IsI64}
use Rattle.wasmi_module.specs.Modules.{Init, I32, I64, F32, F64, V128, RefNull, RefFunc, GlobalGet}
use Rattle.wasmi_module.specs.Format.{Byte, IsBytes, IsRefType, IsConstant}
use Rattle.wasmi_module.proofs.OnceLemmas.{u32_once}
use Rattle.wasmi_module.proofs.OnceItems.{constant_tag, constant_rest, constant_once}
use Rattle.wasmi_module.proofs.LacksLemmas.{split, reads_once, not_first, not_then, not_byte, byte_is, Tagged, lacks-tagged, lacks-tagged_none, lacks-bytes}

constant_parts : Tagged IsConstant constant_tag constant_rest
constant_parts (I32 x) text h = h
constant_parts (I64 x) text h = h
constant_parts (F32 x) text h = h
constant_parts (F64 x) text h = h
constant_parts (V128 x) text h = h
constant_parts (RefNull x) text h = h
constant_parts (RefFunc x) text h = h
constant_parts (GlobalGet x) text h = h

pub lacks-constant_none : {before : List ℕ} → before ≡ [] → Lacks IsConstant before
lacks-constant_none none = lacks-tagged_none IsConstant constant_tag constant_rest constant_parts none

lacks-constant : (k b : ℕ) {before : List ℕ} (mid : List ℕ) → b ≡ k → before ≡ b ∷ mid → ((x : Init) → constant_tag x ≡ k → (after : List ℕ) → Reads (constant_rest x) mid after → ⊥) → Lacks IsConstant before
lacks-constant k b mid is e none = lacks-tagged IsConstant constant_tag constant_rest constant_parts b mid e (λ x tag. none x (tag ∙ is))

no_tag : (b : ℕ) (x : Init) → b ≢ 65 → b ≢ 66 → b ≢ 67 → b ≢ 68 → b ≢ 253 → b ≢ 208 → b ≢ 210 → b ≢ 35 → constant_tag x ≡ b → ⊥
no_tag b (I32 x) i32 i64 f32 f64 v128 null func get e = i32 (sym e)
no_tag b (I64 x) i32 i64 f32 f64 v128 null func get e = i64 (sym e)
no_tag b (F32 x) i32 i64 f32 f64 v128 null func get e = f32 (sym e)
no_tag b (F64 x) i32 i64 f32 f64 v128 null func get e = f64 (sym e)
no_tag b (V128 x) i32 i64 f32 f64 v128 null func get e = v128 (sym e)
no_tag b (RefNull x) i32 i64 f32 f64 v128 null func get e = null (sym e)
no_tag b (RefFunc x) i32 i64 f32 f64 v128 null func get e = func (sym e)
no_tag b (GlobalGet x) i32 i64 f32 f64 v128 null func get e = get (sym e)

-- The first byte is that of no instruction.
pub lacks-constant_tag : (b : ℕ) {before : List ℕ} (mid : List ℕ) → before ≡ b ∷ mid → b ≢ 65 → b ≢ 66 → b ≢ 67 → b ≢ 68 → b ≢ 253 → b ≢ 208 → b ≢ 210 → b ≢ 35 → Lacks IsConstant before
lacks-constant_tag b mid e i32 i64 f32 f64 v128 null func get =
    lacks-tagged IsConstant constant_tag constant_rest constant_parts b mid e (λ x tag after h. no_tag b x i32 i64 f32 f64 v128 null func get tag)

no_i32 : {mid : List ℕ} (x : Init) → Lacks IsI32 mid → constant_tag x ≡ 65 → (after : List ℕ) → Reads (constant_rest x) mid after → ⊥
no_i32 (I32 x) lacks e after h = lacks.none x after h
no_i32 x lacks e after h = absurd (omega arith)

pub lacks-constant_i32 : (b : ℕ) {before : List ℕ} (mid : List ℕ) → b ≡ 65 → before ≡ b ∷ mid → Lacks IsI32 mid → Lacks IsConstant before
lacks-constant_i32 b mid is e lacks = lacks-constant 65 b mid is e (λ x. no_i32 x lacks)

no_i64 : {mid : List ℕ} (x : Init) → Lacks IsI64 mid → constant_tag x ≡ 66 → (after : List ℕ) → Reads (constant_rest x) mid after → ⊥
no_i64 (I64 x) lacks e after h = lacks.none x after h
no_i64 x lacks e after h = absurd (omega arith)

pub lacks-constant_i64 : (b : ℕ) {before : List ℕ} (mid : List ℕ) → b ≡ 66 → before ≡ b ∷ mid → Lacks IsI64 mid → Lacks IsConstant before
lacks-constant_i64 b mid is e lacks = lacks-constant 66 b mid is e (λ x. no_i64 x lacks)

no_f32 : {mid : List ℕ} (x : Init) → Lacks (IsBytes 4) mid → constant_tag x ≡ 67 → (after : List ℕ) → Reads (constant_rest x) mid after → ⊥
no_f32 (F32 x) lacks e after h = lacks.none x after h
no_f32 x lacks e after h = absurd (omega arith)

pub lacks-constant_f32 : (b : ℕ) {before : List ℕ} (mid : List ℕ) → b ≡ 67 → before ≡ b ∷ mid → Lacks (IsBytes 4) mid → Lacks IsConstant before
lacks-constant_f32 b mid is e lacks = lacks-constant 67 b mid is e (λ x. no_f32 x lacks)

no_f64 : {mid : List ℕ} (x : Init) → Lacks (IsBytes 8) mid → constant_tag x ≡ 68 → (after : List ℕ) → Reads (constant_rest x) mid after → ⊥
no_f64 (F64 x) lacks e after h = lacks.none x after h
no_f64 x lacks e after h = absurd (omega arith)

pub lacks-constant_f64 : (b : ℕ) {before : List ℕ} (mid : List ℕ) → b ≡ 68 → before ≡ b ∷ mid → Lacks (IsBytes 8) mid → Lacks IsConstant before
lacks-constant_f64 b mid is e lacks = lacks-constant 68 b mid is e (λ x. no_f64 x lacks)

no_v128 : {mid : List ℕ} (x : Init) → Lacks (λ (bytes : List ℕ). IsU32 12 ⋅ IsBytes 16 bytes) mid → constant_tag x ≡ 253 → (after : List ℕ) → Reads (constant_rest x) mid after → ⊥
no_v128 (V128 x) lacks e after h = lacks.none x after h
no_v128 x lacks e after h = absurd (omega arith)

pub lacks-constant_v128 : (b : ℕ) {before : List ℕ} (mid : List ℕ) → b ≡ 253 → before ≡ b ∷ mid → Lacks (λ (bytes : List ℕ). IsU32 12 ⋅ IsBytes 16 bytes) mid → Lacks IsConstant before
lacks-constant_v128 b mid is e lacks = lacks-constant 253 b mid is e (λ x. no_v128 x lacks)

no_null : {mid : List ℕ} (x : Init) → Lacks IsRefType mid → constant_tag x ≡ 208 → (after : List ℕ) → Reads (constant_rest x) mid after → ⊥
no_null (RefNull x) lacks e after h = lacks.none x after h
no_null x lacks e after h = absurd (omega arith)

pub lacks-constant_null : (b : ℕ) {before : List ℕ} (mid : List ℕ) → b ≡ 208 → before ≡ b ∷ mid → Lacks IsRefType mid → Lacks IsConstant before
lacks-constant_null b mid is e lacks = lacks-constant 208 b mid is e (λ x. no_null x lacks)

no_func : {mid : List ℕ} (x : Init) → Lacks IsU32 mid → constant_tag x ≡ 210 → (after : List ℕ) → Reads (constant_rest x) mid after → ⊥
no_func (RefFunc x) lacks e after h = lacks.none x after h
no_func x lacks e after h = absurd (omega arith)

pub lacks-constant_func : (b : ℕ) {before : List ℕ} (mid : List ℕ) → b ≡ 210 → before ≡ b ∷ mid → Lacks IsU32 mid → Lacks IsConstant before
lacks-constant_func b mid is e lacks = lacks-constant 210 b mid is e (λ x. no_func x lacks)

no_get : {mid : List ℕ} (x : Init) → Lacks IsU32 mid → constant_tag x ≡ 35 → (after : List ℕ) → Reads (constant_rest x) mid after → ⊥
no_get (GlobalGet x) lacks e after h = lacks.none x after h
no_get x lacks e after h = absurd (omega arith)

pub lacks-constant_get : (b : ℕ) {before : List ℕ} (mid : List ℕ) → b ≡ 35 → before ≡ b ∷ mid → Lacks IsU32 mid → Lacks IsConstant before
lacks-constant_get b mid is e lacks = lacks-constant 35 b mid is e (λ x. no_get x lacks)

-- ---- what follows the first byte of a vector

pub lacks-v128_number : {before : List ℕ} → Lacks IsU32 before → Lacks (λ (bytes : List ℕ). IsU32 12 ⋅ IsBytes 16 bytes) before
lacks-v128_number lacks = record { none = λ bytes after h. not_first IsU32 lacks h }

pub lacks-v128_other : (n : ℕ) {before : List ℕ} (mid : List ℕ) → Reads (IsU32 n) before mid → n ≢ 12 → Lacks (λ (bytes : List ℕ). IsU32 12 ⋅ IsBytes 16 bytes) before
lacks-v128_other n mid read other = record { none = λ bytes after h. other (reads_once IsU32 u32_once read (split h).first).0 }

pub lacks-v128_bytes : (n : ℕ) {before : List ℕ} (mid : List ℕ) → Reads (IsU32 n) before mid → length mid < 16 → Lacks (λ (bytes : List ℕ). IsU32 12 ⋅ IsBytes 16 bytes) before
lacks-v128_bytes n mid read short = record { none = λ bytes after h. not_then IsU32 u32_once mid read ((lacks-bytes 16 short).none bytes after) h }

-- ---- the instruction and the end of it

pub lacks-init_first : {before : List ℕ} → Lacks IsConstant before → Lacks (λ init. IsConstant init ⋅ Byte 11) before
lacks-init_first lacks = record { none = λ init after h. not_first IsConstant lacks h }

pub lacks-init_none : (init : Init) {before : List ℕ} (mid : List ℕ) → Reads (IsConstant init) before mid → mid ≡ [] → Lacks (λ init. IsConstant init ⋅ Byte 11) before
lacks-init_none init mid read none = record { none = λ other after h. not_then IsConstant constant_once mid read (not_byte 11 none) h }

pub lacks-init_end : (init : Init) (b : ℕ) {before : List ℕ} (mid after : List ℕ) → Reads (IsConstant init) before mid → mid ≡ b ∷ after → b ≢ 11 → Lacks (λ init. IsConstant init ⋅ Byte 11) before
lacks-init_end init b mid after read is other = record { none = λ i rest h. not_then IsConstant constant_once mid read (λ last. other (byte_is 11 b after is last).0) h }
