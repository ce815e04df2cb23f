-- Where no text of a form stands at the front of the bytes, none stands there of a form that begins with it.
-- for src/constants.rt, src/decoder.rt, src/items.rt, src/item.rt, src/sections.rt, src/values.rt
use Rattle.std.proofs.Common.{◌≡◌, ◌≢◌, ℕ, ◌<◌, length, List, [], ◌∷◌, ◌++◌, refl, sym, ap, subst, ◌∙◌, append_assoc, arith, length-append, Result, Ok, Err}
use Rattle.wasmi_module.specs.Texts.{Is, ◌⋅◌}
use Rattle.wasmi_module.specs.inner.Reading.{Reads, Lacks, With, Only}
use Rattle.wasmi_module.specs.declared.error.DecodeError.{DecodeError}
use Rattle.wasmi_module.specs.declared.error.DecodeError.TheVariants.{NoMemory}
use Rattle.std.specs.Prelude.{IfOk, IfErr, IsErrAnd, MatchResult}
use Rattle.wasmi_module.specs.Format.{IsBytes}
use Rattle.wasmi_module.proofs.LawLemmas.{head_same, tail_same}
use Rattle.wasmi_module.proofs.OnceLemmas.{Once, rest_same}

-- what stands between a text of the first form and what is left behind one of the second
pub record Split (P Q : List ℕ → Type 0) (before after : List ℕ) : Type 0 where
  pub mid : List ℕ
  pub first : Reads P before mid
  pub second : Reads Q mid after

pub split : {P Q : List ℕ → Type 0} {before after : List ℕ} → Reads (P ⋅ Q) before after → Split P Q before after
split {after = after} h = record {
  mid = h.is_text.back ++ after;
  first = record { text = h.is_text.front; is_text = h.is_text.first; parts = h.parts ∙ ap (λ (t : List ℕ). t ++ after) h.is_text.parts ∙ append_assoc h.is_text.front h.is_text.back after };
  second = record { text = h.is_text.back; is_text = h.is_text.second; parts = refl };
}

-- One thing is read of the same bytes, and the same are left.
pub reads_once : {X : Type 0} (W : X → List ℕ → Type 0) → Once W → {x y : X} {before mid after : List ℕ} → Reads (W x) before mid → Reads (W y) before after → (x ≡ y) × (mid ≡ after)
reads_once W once {x} {y} {before} {mid} {after} p q =
    let e : p.text ++ mid ≡ q.text ++ after = sym p.parts ∙ q.parts in
    let r = once x y p.text q.text mid after p.is_text q.is_text e in
    (r.0, rest_same p.text q.text mid after e r.1)

-- Nothing of the first form stands there.
pub not_first : {X : Type 0} (W : X → List ℕ → Type 0) {x : X} {Q : List ℕ → Type 0} {before after : List ℕ} → Lacks W before → Reads (W x ⋅ Q) before after → ⊥
not_first W {x} lacks h = let s = split h in lacks.none x s.mid s.first

-- What follows the one text of the first form is none of the second.
pub not_then : {X : Type 0} (W : X → List ℕ → Type 0) → Once W → {x y : X} {Q : List ℕ → Type 0} {before : List ℕ} (mid : List ℕ) {after : List ℕ} → Reads (W x) before mid → (Reads Q mid after → ⊥) → Reads (W y ⋅ Q) before after → ⊥
not_then W once {x} {y} {Q} mid {after} read none h =
    let s = split h in
    let same = reads_once W once read s.first in
    none (subst (λ (t : List ℕ). Reads Q t after) (sym same.1) s.second)

-- ---- bytes

pub not_byte : (k : ℕ) {before after : List ℕ} → before ≡ [] → Reads (Is (k ∷ [])) before after → ⊥
not_byte k {before} {after} none h =
    let e : [] ≡ k ∷ after = sym none ∙ h.parts ∙ ap (λ (t : List ℕ). t ++ after) h.is_text in
    absurd cc

pub byte_is : (k b : ℕ) {before : List ℕ} (mid : List ℕ) {after : List ℕ} → before ≡ b ∷ mid → Reads (Is (k ∷ [])) before after → (b ≡ k) × (mid ≡ after)
byte_is k b mid {after} is h =
    let e : b ∷ mid ≡ k ∷ after = sym is ∙ h.parts ∙ ap (λ (t : List ℕ). t ++ after) h.is_text in
    (head_same b k mid after e, tail_same b k mid after e)

pub not_byte_first : (k : ℕ) {Q : List ℕ → Type 0} {before after : List ℕ} → before ≡ [] → Reads (Is (k ∷ []) ⋅ Q) before after → ⊥
not_byte_first k none h = not_byte k none (split h).first

-- the byte that a text begins with
pub first_byte : (k b : ℕ) {Q : List ℕ → Type 0} {before : List ℕ} (mid : List ℕ) {after : List ℕ} → before ≡ b ∷ mid → Reads (Is (k ∷ []) ⋅ Q) before after → b ≡ k
first_byte k b mid is h = (byte_is k b mid is (split h).first).0

pub not_after_byte : (k b : ℕ) {Q : List ℕ → Type 0} {before : List ℕ} (mid : List ℕ) {after : List ℕ} → before ≡ b ∷ mid → (Reads Q mid after → ⊥) → Reads (Is (k ∷ []) ⋅ Q) before after → ⊥
not_after_byte k b {Q} mid {after} is none h =
    let s = split h in
    none (subst (λ (t : List ℕ). Reads Q t after) (sym (byte_is k b mid is s.first).1) s.second)

-- fewer bytes are left than the text has
pub not_long : (bytes : List ℕ) {before after : List ℕ} → length before < length bytes → Reads (Is bytes) before after → ⊥
not_long bytes {before} {after} short h =
    let e : before ≡ bytes ++ after = h.parts ∙ ap (λ (t : List ℕ). t ++ after) h.is_text in
    absurd (omega (arith, ap length e, length-append bytes after))

pub lacks-bytes : (count : ℕ) {before : List ℕ} → length before < count → Lacks (IsBytes count) before
lacks-bytes count {before} short = record {
  none = λ bytes after h.
      let short_of : length before < length bytes = omega (arith, h.is_text.len) in
      not_long bytes short_of (record { text = h.text; is_text = h.is_text.written; parts = h.parts });
}

-- ---- forms with a first byte

-- A text of the form W is a byte, which is the thing's tag, and then a text of the form that V has for it.
abbrev pub Tagged : {X : Type 0} → (X → List ℕ → Type 0) → (X → ℕ) → (X → List ℕ → Type 0) → Type 0
Tagged {X} W tag V = (x : X) (text : List ℕ) → W x text → (Is (tag x ∷ []) ⋅ V x) text

tagged : {X : Type 0} (W : X → List ℕ → Type 0) (tag : X → ℕ) (V : X → List ℕ → Type 0) → Tagged W tag V → (x : X) {before after : List ℕ} → Reads (W x) before after → Reads (Is (tag x ∷ []) ⋅ V x) before after
tagged W tag V parts x h = record { text = h.text; is_text = parts x h.text h.is_text; parts = h.parts }

pub lacks-tagged_none : {X : Type 0} (W : X → List ℕ → Type 0) (tag : X → ℕ) (V : X → List ℕ → Type 0) → Tagged W tag V → {before : List ℕ} → before ≡ [] → Lacks W before
lacks-tagged_none W tag V parts none = record { none = λ x after h. not_byte_first (tag x) none (tagged W tag V parts x h) }

pub lacks-tagged : {X : Type 0} (W : X → List ℕ → Type 0) (tag : X → ℕ) (V : X → List ℕ → Type 0) → Tagged W tag V → (b : ℕ) {before : List ℕ} (mid : List ℕ) → before ≡ b ∷ mid → ((x : X) → tag x ≡ b → (after : List ℕ) → Reads (V x) mid after → ⊥) → Lacks W before
lacks-tagged W tag V parts b mid is none = record {
  none = λ x after h.
      let t = tagged W tag V parts x h in
      not_after_byte (tag x) b mid is (none x (sym (first_byte (tag x) b mid is t)) after) t;
}

-- the byte that was read
pub byte_of : (k : ℕ) {before after : List ℕ} → Reads (Is (k ∷ [])) before after → before ≡ k ∷ after
byte_of k {before} {after} h = h.parts ∙ ap (λ (t : List ℕ). t ++ after) h.is_text

-- A thing of one form is a thing of another.
pub lacks-by : {X Z : Type 0} (W : X → List ℕ → Type 0) (V : Z → List ℕ → Type 0) (f : Z → X) → ((z : Z) (text : List ℕ) → V z text → W (f z) text) → {before : List ℕ} → Lacks W before → Lacks V before
lacks-by W V f sees lacks = record { none = λ z after h. lacks.none (f z) after (record { text = h.text; is_text = sees z h.text h.is_text; parts = h.parts }) }

-- ---- of which something holds

pub lacks-with : {X : Type 0} {W : X → List ℕ → Type 0} {bytes : List ℕ} (V : X → Type 0) → Lacks W bytes → Lacks (With W V) bytes
lacks-with V lacks = record { none = λ x after h. lacks.none x after (record { text = h.text; is_text = h.is_text.written; parts = h.parts }) }

-- What holds of everything asks for nothing.
pub lacks-without : {X : Type 0} {W : X → List ℕ → Type 0} {bytes : List ℕ} {V : X → Type 0} → ((x : X) → V x) → Lacks (With W V) bytes → Lacks W bytes
lacks-without all lacks = record { none = λ x after h. lacks.none x after (record { text = h.text; is_text = record { written = h.is_text; holds = all x }; parts = h.parts }) }

-- It doesn't hold of the thing that stands there.
pub lacks-invalid : {X : Type 0} (W : X → List ℕ → Type 0) → Once W → (V : X → Type 0) {x : X} {before : List ℕ} (after : List ℕ) → Reads (W x) before after → (V x → ⊥) → Lacks (With W V) before
lacks-invalid W once V after read bad = record {
  none = λ y rest h.
      let same = reads_once W once read (record { text = h.text; is_text = h.is_text.written; parts = h.parts }) in
      bad (subst V (sym same.0) h.is_text.holds);
}

pub only-once : {X : Type 0} (W : X → List ℕ → Type 0) → Once W → {x : X} {before after : List ℕ} → Reads (W x) before after → Only W x before after
only-once W once read = record { same = λ y rest h. let s = reads_once W once read h in (sym s.0, sym s.1) }

-- ---- errors

-- as the callee has it
pub passed : {T Q : Type 0} (d : DecodeError) (r : Result T DecodeError) → IsErrAnd r (λ e. e ≡ d) → (d ≢ NoMemory → Q) → IfErr r (λ e. e ≢ NoMemory → Q)
passed d (Ok x) is so = tt
passed d (Err e) is so = λ other. so (λ memory. other (is ∙ memory))

-- whatever the error
pub anyhow : {T Q : Type 0} (r : Result T DecodeError) → Q → IfErr r (λ e. e ≢ NoMemory → Q)
anyhow (Ok x) q = tt
anyhow (Err e) q = λ other. q

pub anyhow_of : {T : Type 0} {X : Type 0} (r : Result T DecodeError) (P : T → Type 0) (W : X → List ℕ → Type 0) (V : X → Type 0) (bytes : List ℕ) → MatchResult r P (λ _. Lacks W bytes) → IfErr r (λ e. e ≢ NoMemory → Lacks (With W V) bytes)
anyhow_of (Ok x) P W V bytes h = tt
anyhow_of (Err e) P W V bytes h = λ other. lacks-with V h

pub only_of : {T : Type 0} {X : Type 0} (r : Result T DecodeError) (W : X → List ℕ → Type 0) → Once W → (f : T → X) (Q : DecodeError → Type 0) (before after : List ℕ) → MatchResult r (λ x. Reads (W (f x)) before after) Q → IfOk r (λ x. Only W (f x) before after)
only_of (Ok x) W once f Q before after h = only-once W once h
only_of (Err e) W once f Q before after h = tt
