-- Where no item of a module stands at the front of the bytes.
-- for src/item.rt, src/items.rt
use Rattle.std.proofs.Common.{◌≡◌, ◌≢◌, ℕ, zero, suc, ◌+◌, ◌<◌, ◌≤◌, length, List, [], ◌∷◌, ◌++◌, get_or, take, drop, sym, ap, subst, ◌∙◌, arith, map}
use Rattle.std.specs.List.{All}
use Rattle.std.proofs.Math.Seq.{drop-cons}
use Rattle.std.proofs.lemmas.List.{take_more, take_all, drop_all, map-id}
use Rattle.wasmi_module.specs.declared.counts.Counts.{Counts}
use Rattle.wasmi_module.specs.declared.module.ValType.{ValType}
use Rattle.wasmi_module.specs.declared.module.Kind.{Kind}
use Rattle.wasmi_module.specs.Texts.{◌⋅◌, Each}
use Rattle.wasmi_module.specs.inner.Reading.{Reads, Lacks, With, Only}
use Rattle.wasmi_module.specs.Numbers.{IsU32}
use Rattle.wasmi_module.specs.Valid.{IsAnything}
use Rattle.wasmi_module.specs.Format.{Byte, IsVector, IsName, IsValType, IsFuncType, IsImportType, IsImport, IsGlobalType, IsConstant, IsGlobal, kind_code, IsExport}
use Rattle.wasmi_module.proofs.OnceLemmas.{u32_once, vector_once, name_once}
use Rattle.wasmi_module.proofs.OnceItems.{val_type_once, global_type_once, kind_once}
use Rattle.wasmi_module.proofs.LacksLemmas.{split, reads_once, not_first, not_then, not_byte_first, first_byte, not_after_byte, lacks-with, lacks-without}

-- ---- types of functions

pub all_anything : {X : Type 0} (counts : Counts) (xs : List X) → All (IsAnything counts) xs
all_anything counts xs = λ k d lt. tt

abbrev Types : List ValType → List ℕ → Type 0
Types = IsVector IsValType

-- of types a contract sees what they are
pub types_read : (types : List ValType) {before after : List ℕ} → Reads (IsVector IsValType (map (λ ty. ty) types)) before after → Reads (IsVector IsValType types) before after
types_read types {before} {after} h = subst (λ (ts : List ValType). Reads (IsVector IsValType ts) before after) (map-id types) h

pub lacks-func_none : {before : List ℕ} → before ≡ [] → Lacks IsFuncType before
lacks-func_none none = record { none = λ f after h. not_byte_first 96 none h }

pub lacks-func_tag : (b : ℕ) {before : List ℕ} (mid : List ℕ) → before ≡ b ∷ mid → b ≢ 96 → Lacks IsFuncType before
lacks-func_tag b mid is other = record { none = λ f after h. other (first_byte 96 b mid is h) }

pub lacks-func_params : (counts : Counts) (b : ℕ) {before : List ℕ} (mid : List ℕ) → before ≡ b ∷ mid → Lacks (With (IsVector IsValType) (All (IsAnything counts))) mid → Lacks IsFuncType before
lacks-func_params counts b mid is lacks = record { none = λ f after h. not_after_byte 96 b mid is (not_first Types (lacks-without (all_anything counts) lacks)) h }

pub lacks-func_results : (counts : Counts) (b : ℕ) (params : List ValType) {before : List ℕ} (mid next : List ℕ) → before ≡ b ∷ mid → Reads (IsVector IsValType params) mid next → Lacks (With (IsVector IsValType) (All (IsAnything counts))) next → Lacks IsFuncType before
lacks-func_results counts b params mid next is read lacks = record {
  none = λ f after h.
      not_after_byte 96 b mid is (not_then Types (vector_once IsValType val_type_once) next read ((lacks-without (all_anything counts) lacks).none f.results after)) h;
}

-- ---- imports

pub lacks-import_asked : {before : List ℕ} → Lacks IsName before → Lacks IsImport before
lacks-import_asked lacks = record { none = λ i after h. not_first IsName lacks h }

pub lacks-import_field : (asked : List ℕ) {before : List ℕ} (mid : List ℕ) → Reads (IsName asked) before mid → Lacks IsName mid → Lacks IsImport before
lacks-import_field asked mid read lacks = record { none = λ i after h. not_then IsName name_once mid read (not_first IsName lacks) h }

pub lacks-import_item : (asked field : List ℕ) {before : List ℕ} (mid next : List ℕ) → Reads (IsName asked) before mid → Reads (IsName field) mid next → Lacks IsImportType next → Lacks IsImport before
lacks-import_item asked field mid next first second lacks = record {
  none = λ i after h.
      not_then IsName name_once mid first (not_then IsName name_once next second (lacks.none i.item after)) h;
}

-- ---- globals

pub lacks-global_type : {before : List ℕ} → Lacks IsGlobalType before → Lacks IsGlobal before
lacks-global_type lacks = record { none = λ g after h. not_first IsGlobalType lacks h }

pub lacks-global_init : (ty : _) {before : List ℕ} (mid : List ℕ) → Reads (IsGlobalType ty) before mid → Lacks (λ init. IsConstant init ⋅ Byte 11) mid → Lacks IsGlobal before
lacks-global_init ty mid read lacks = record { none = λ g after h. not_then IsGlobalType global_type_once mid read (lacks.none g.init after) h }

-- ---- exports

pub lacks-export_name : {before : List ℕ} → Lacks IsName before → Lacks IsExport before
lacks-export_name lacks = record { none = λ e after h. not_first IsName lacks h }

pub lacks-export_kind : (name : List ℕ) {before : List ℕ} (mid : List ℕ) → Reads (IsName name) before mid → Lacks (λ (k : Kind). Byte (kind_code k)) mid → Lacks IsExport before
lacks-export_kind name mid read lacks = record { none = λ e after h. not_then IsName name_once mid read (not_first (λ (k : Kind). Byte (kind_code k)) {x = e.kind} lacks) h }

pub lacks-export_index : (name : List ℕ) (kind : Kind) {before : List ℕ} (mid next : List ℕ) → Reads (IsName name) before mid → Reads (Byte (kind_code kind)) mid next → Lacks IsU32 next → Lacks IsExport before
lacks-export_index name kind mid next first second lacks = record {
  none = λ e after h.
      not_then IsName name_once mid first (not_then (λ (k : Kind). Byte (kind_code k)) kind_once {x = kind} {y = e.kind} next second (lacks.none e.index after)) h;
}

-- ---- lists of items

-- One more item was read, which is the only one there.
pub each_step : {X : Type 0} (W : X → List ℕ → Type 0) (xs : List X) (i : ℕ) (known : List X) (x : X) {mid : List ℕ} (next after : List ℕ) → i < length xs → Only W x mid next → (take i xs ≡ known) × Reads (Each W (drop i xs)) mid after → (take (i + 1) xs ≡ known ++ x ∷ []) × Reads (Each W (drop (i + 1) xs)) next after
each_step {X} W xs i known x {mid} next after lt only so_far =
    let front : drop i xs ≡ get_or xs i x ∷ drop (suc i) xs = drop-cons xs i x lt in
    let s = split (subst (λ (ys : List X). Reads (Each W ys) mid after) front so_far.1) in
    let same = only.same (get_or xs i x) s.mid s.first in
    let plus : i + 1 ≡ suc i = omega arith in (
      take_more xs i x lt ∙ ap (λ (ys : List X). ys ++ get_or xs i x ∷ []) so_far.0 ∙ ap (λ (y : X). known ++ y ∷ []) same.0,
      subst (λ (k : ℕ). Reads (Each W (drop k xs)) next after) (sym plus) (subst (λ (t : List ℕ). Reads (Each W (drop (suc i) xs)) t after) same.1 s.second),
    )

-- No valid item stands where the next one is to be.
pub each_none : {X : Type 0} (W : X → List ℕ → Type 0) (V : X → Type 0) (xs : List X) (i : ℕ) {mid after : List ℕ} → i < length xs → All V xs → Lacks (With W V) mid → Reads (Each W (drop i xs)) mid after → ⊥
each_none W V [] i lt all lacks h = absurd (omega arith)
each_none W V (x ∷ xs) zero lt all lacks h =
    let s = split h in
    lacks.none x s.mid (record { text = s.first.text; is_text = record { written = s.first.is_text; holds = all 0 x (omega arith) }; parts = s.first.parts })
each_none W V (x ∷ xs) (suc i) lt all lacks h = each_none W V xs i (omega arith) (λ k d within. all (suc k) d (omega arith)) lacks h

-- All items were read.
pub each_all : {X : Type 0} (W : X → List ℕ → Type 0) (xs : List X) (i : ℕ) (known : List X) {mid after : List ℕ} → i ≡ length xs → (take i xs ≡ known) × Reads (Each W (drop i xs)) mid after → (xs ≡ known) × (after ≡ mid)
each_all W xs i known {mid} {after} len h =
    let most : length xs ≤ i = omega arith in
    let rest : Reads (Each W []) mid after = subst (λ ys. Reads (Each W ys) mid after) (drop_all i xs most) h.1 in
    (sym (take_all i xs most) ∙ h.0, sym (rest.parts ∙ ap (λ (t : List ℕ). t ++ after) rest.is_text))

-- A vector is a count and its items.
pub vector_only : {X : Type 0} (W : X → List ℕ → Type 0) (count : ℕ) (known : List X) {before : List ℕ} (mid : List ℕ) {after : List ℕ} → Reads (IsU32 count) before mid
    → Only (With (Each W) (λ xs. length xs ≡ count)) known mid after → Only (IsVector W) known before after
vector_only W count known {before} mid {after} read only = record {
  same = λ xs rest h.
      let s = split h in
      let same = reads_once IsU32 u32_once read s.first in
      let items = subst (λ (t : List ℕ). Reads (Each W xs) t rest) (sym same.1) s.second in
      only.same xs rest (record { text = items.text; is_text = record { written = items.is_text; holds = sym same.0 }; parts = items.parts });
}

pub vector_none : {X : Type 0} (W : X → List ℕ → Type 0) (V : X → Type 0) {before : List ℕ} → Lacks IsU32 before → Lacks (With (IsVector W) (All V)) before
vector_none W V lacks = lacks-with (All V) (record { none = λ xs after h. not_first IsU32 lacks h })

pub vector_lacks : {X : Type 0} (W : X → List ℕ → Type 0) (V : X → Type 0) (count : ℕ) {before : List ℕ} (mid : List ℕ) → Reads (IsU32 count) before mid
    → Lacks (With (Each W) (λ xs. (length xs ≡ count) × All V xs)) mid → Lacks (With (IsVector W) (All V)) before
vector_lacks W V count {before} mid read lacks = record {
  none = λ xs after h.
      let s = split (record { text = h.text; is_text = h.is_text.written; parts = h.parts }) in
      let same = reads_once IsU32 u32_once read s.first in
      let rest = subst (λ (t : List ℕ). Reads (Each W xs) t after) (sym same.1) s.second in
      lacks.none xs after (record { text = rest.text; is_text = record { written = rest.is_text; holds = (sym same.0, h.is_text.holds) }; parts = rest.parts });
}

-- no list of so many valid items, where fewer were read
pub each_lacks : {X : Type 0} (W : X → List ℕ → Type 0) (V : X → Type 0) (count i : ℕ) (known : List X) (before mid : List ℕ) → i < count
    → ((xs : List X) (after : List ℕ) → i ≤ length xs → Reads (Each W xs) before after → (take i xs ≡ known) × Reads (Each W (drop i xs)) mid after)
    → Lacks (With W V) mid → Lacks (With (Each W) (λ xs. (length xs ≡ count) × All V xs)) before
each_lacks W V count i known before mid lt so_far lacks = record {
  none = λ xs after h.
      let len : length xs ≡ count = h.is_text.holds.0 in
      let rest = so_far xs after (omega arith) (record { text = h.text; is_text = h.is_text.written; parts = h.parts }) in
      each_none W V xs i (omega arith) h.is_text.holds.1 lacks rest.1;
}
