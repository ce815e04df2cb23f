-- Numbers in LEB128, a byte at a time.
-- for src/numbers.rt
use Rattle.std.proofs.Common.{◌≡◌, ◌⊎◌, ℕ, ◌+◌, ◌*◌, ◌/◌, ◌<◌, ◌≤◌, List, [], ◌∷◌, ◌++◌, refl, sym, ap, ◌∙◌, Result, Ok, Err, inl, inr, arith}
use Rattle.std.specs.Prelude.{OnErr, ℤ, pos, ◌+ℤ◌, ◌*ℤ◌}
use Rattle.wasmi_module.specs.Numbers.{IsUnsigned, IsSigned}
use Rattle.wasmi_module.specs.inner.Reading.{Reads, Lacks}
use Rattle.wasmi_module.proofs.LawLemmas.{head_same, tail_same}

pub unsigned-last : (limit b : ℕ) (before after : List ℕ) → before ≡ b ∷ after → b < 128 → b < limit → Reads (IsUnsigned limit b) before after
unsigned-last limit b before after e small below = record { text = b ∷ []; is_text = (small, below, refl); parts = e }

more : (limit b high n : ℕ) (text : List ℕ) → 128 ≤ b → b < 256 → 128 < limit → n + 128 ≡ b + 128 * high → IsUnsigned (limit / 128) high text → IsUnsigned limit n (b ∷ text)
more limit b high n [] low top wide sum rest = absurd rest
more limit b high n (c ∷ bs) low top wide sum rest = (low, top, wide, high, sum, rest)

pub unsigned-more : (limit b high : ℕ) {n : ℕ} {before : List ℕ} (mid : List ℕ) {after : List ℕ} → before ≡ b ∷ mid → 128 ≤ b → b < 256 → 128 < limit → n + 128 ≡ b + 128 * high → Reads (IsUnsigned (limit / 128) high) mid after → Reads (IsUnsigned limit n) before after
unsigned-more limit b high {n} {before} mid {after} e low top wide sum reads =
    record { text = b ∷ reads.text; is_text = more limit b high n reads.text low top wide sum reads.is_text; parts = e ∙ ap (λ (t : List ℕ). b ∷ t) reads.parts }

pub signed-low : (half b : ℕ) {n : ℤ} {before after : List ℕ} → before ≡ b ∷ after → b < 64 → b < half → n ≡ pos b → Reads (IsSigned half n) before after
signed-low half b {n} {before} {after} e small below is = record { text = b ∷ []; is_text = inl (small, below, is); parts = e }

pub signed-high : (half b : ℕ) {n : ℤ} {before after : List ℕ} → before ≡ b ∷ after → 64 ≤ b → b < 128 → 128 ≤ b + half → n +ℤ pos 128 ≡ pos b → Reads (IsSigned half n) before after
signed-high half b {n} {before} {after} e low top below sum = record { text = b ∷ []; is_text = inr (low, top, below, sum); parts = e }

signed_more : (half b : ℕ) (high n : ℤ) (text : List ℕ) → 128 ≤ b → b < 256 → 64 < half → n +ℤ pos 128 ≡ pos b +ℤ (pos 128 *ℤ high) → IsSigned (half / 128) high text → IsSigned half n (b ∷ text)
signed_more half b high n [] low top wide sum rest = absurd rest
signed_more half b high n (c ∷ bs) low top wide sum rest = (low, top, wide, high, sum, rest)

pub signed-more : (half b : ℕ) (high : ℤ) {n : ℤ} {before : List ℕ} (mid : List ℕ) {after : List ℕ} → before ≡ b ∷ mid → 128 ≤ b → b < 256 → 64 < half → n +ℤ pos 128 ≡ pos b +ℤ (pos 128 *ℤ high) → Reads (IsSigned (half / 128) high) mid after → Reads (IsSigned half n) before after
signed-more half b high {n} {before} mid {after} e low top wide sum reads =
    record { text = b ∷ reads.text; is_text = signed_more half b high n reads.text low top wide sum reads.is_text; parts = e ∙ ap (λ (t : List ℕ). b ∷ t) reads.parts }

-- ---- no number

-- What is so anyhow is so after an error.
pub on_err : {T E P : Type 0} (r : Result T E) → P → OnErr r P
on_err (Ok x) p = tt
on_err (Err e) p = p

no_text : (text after : List ℕ) (P : List ℕ → Type 0) → (P [] → ⊥) → P text → [] ≡ text ++ after → ⊥
no_text [] after P none p e = none p
no_text (c ∷ text) after P none p e = absurd cc

pub unsigned-none : (limit : ℕ) {before : List ℕ} → before ≡ [] → Lacks (IsUnsigned limit) before
unsigned-none limit e = record { none = λ n after h. no_text h.text after (IsUnsigned limit n) (λ p. p) h.is_text (sym e ∙ h.parts) }

pub signed-none : (half : ℕ) {before : List ℕ} → before ≡ [] → Lacks (IsSigned half) before
signed-none half e = record { none = λ n after h. no_text h.text after (IsSigned half n) (λ p. p) h.is_text (sym e ∙ h.parts) }

unsigned_ill : (limit b n : ℕ) (text rest after : List ℕ) → ((b < 128) × (limit ≤ b)) ⊎ ((128 ≤ b) × (limit ≤ 128)) → IsUnsigned limit n text → b ∷ rest ≡ text ++ after → ⊥
unsigned_ill limit b n [] rest after ill p e = p
unsigned_ill limit b n (c ∷ []) rest after (inl ill) p e = let same = head_same b c rest after e in absurd (omega (arith, p.0, p.1, ill.0, ill.1))
unsigned_ill limit b n (c ∷ []) rest after (inr ill) p e = let same = head_same b c rest after e in absurd (omega (arith, p.0, ill.0))
unsigned_ill limit b n (c ∷ d ∷ text) rest after (inl ill) p e = let same = head_same b c rest (d ∷ text ++ after) e in absurd (omega (arith, p.0, ill.0))
unsigned_ill limit b n (c ∷ d ∷ text) rest after (inr ill) p e = absurd (omega (arith, p.2, ill.1))

-- The first byte is none of a number below the limit.
pub unsigned-ill : (limit b : ℕ) {before : List ℕ} (mid : List ℕ) → before ≡ b ∷ mid → ((b < 128) × (limit ≤ b)) ⊎ ((128 ≤ b) × (limit ≤ 128)) → Lacks (IsUnsigned limit) before
unsigned-ill limit b mid e ill = record { none = λ n after h. unsigned_ill limit b n h.text mid after ill h.is_text (sym e ∙ h.parts) }

unsigned_rest : (limit b n : ℕ) (text rest after : List ℕ) → 128 ≤ b → Lacks (IsUnsigned (limit / 128)) rest → IsUnsigned limit n text → b ∷ rest ≡ text ++ after → ⊥
unsigned_rest limit b n [] rest after low lacks p e = p
unsigned_rest limit b n (c ∷ []) rest after low lacks p e = let same = head_same b c rest after e in absurd (omega (arith, p.0))
unsigned_rest limit b n (c ∷ d ∷ text) rest after low lacks p e =
    lacks.none p.3 after (record { text = d ∷ text; is_text = p.5; parts = tail_same b c rest (d ∷ text ++ after) e })

-- No number follows the first byte.
pub unsigned-rest : (limit b : ℕ) {before : List ℕ} (mid : List ℕ) → before ≡ b ∷ mid → 128 ≤ b → Lacks (IsUnsigned (limit / 128)) mid → Lacks (IsUnsigned limit) before
unsigned-rest limit b mid e low lacks = record { none = λ n after h. unsigned_rest limit b n h.text mid after low lacks h.is_text (sym e ∙ h.parts) }

signed_ill : (half b : ℕ) (n : ℤ) (text rest after : List ℕ) → ((b < 64) × (half ≤ b)) ⊎ ((64 ≤ b) × (b < 128) × (b + half < 128)) ⊎ ((128 ≤ b) × (half ≤ 64)) → IsSigned half n text → b ∷ rest ≡ text ++ after → ⊥
signed_ill half b n [] rest after ill p e = p
signed_ill half b n (c ∷ []) rest after ill p e =
    let same = head_same b c rest after e in
    elim p [ inl q ↦ absurd (omega (arith, q.0, q.1, ill)) | inr q ↦ absurd (omega (arith, q.0, q.1, q.2, ill)) ]
signed_ill half b n (c ∷ d ∷ text) rest after ill p e = let same = head_same b c rest (d ∷ text ++ after) e in absurd (omega (arith, p.0, p.2, ill))

-- The first byte is none of a number within these bounds.
pub signed-ill : (half b : ℕ) {before : List ℕ} (mid : List ℕ) → before ≡ b ∷ mid → ((b < 64) × (half ≤ b)) ⊎ ((64 ≤ b) × (b < 128) × (b + half < 128)) ⊎ ((128 ≤ b) × (half ≤ 64)) → Lacks (IsSigned half) before
signed-ill half b mid e ill = record { none = λ n after h. signed_ill half b n h.text mid after ill h.is_text (sym e ∙ h.parts) }

signed_rest : (half b : ℕ) (n : ℤ) (text rest after : List ℕ) → 128 ≤ b → Lacks (IsSigned (half / 128)) rest → IsSigned half n text → b ∷ rest ≡ text ++ after → ⊥
signed_rest half b n [] rest after low lacks p e = p
signed_rest half b n (c ∷ []) rest after low lacks p e =
    let same = head_same b c rest after e in
    elim p [ inl q ↦ absurd (omega (arith, q.0)) | inr q ↦ absurd (omega (arith, q.1)) ]
signed_rest half b n (c ∷ d ∷ text) rest after low lacks p e =
    lacks.none p.3 after (record { text = d ∷ text; is_text = p.5; parts = tail_same b c rest (d ∷ text ++ after) e })

pub signed-rest : (half b : ℕ) {before : List ℕ} (mid : List ℕ) → before ≡ b ∷ mid → 128 ≤ b → Lacks (IsSigned (half / 128)) mid → Lacks (IsSigned half) before
signed-rest half b mid e low lacks = record { none = λ n after h. signed_rest half b n h.text mid after low lacks h.is_text (sym e ∙ h.parts) }
