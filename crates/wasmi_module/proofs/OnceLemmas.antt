-- No writing of a thing begins that of another: where two texts go on alike, they stand for one thing.
-- for src/decoder.rt, src/items.rt, src/laws.rt, src/sections.rt, src/values.rt
use Rattle.std.proofs.Common.{◌≡◌, ℕ, length, List, [], ◌∷◌, ◌++◌, refl, sym, ap, ◌∙◌, append_assoc, arith}
use Rattle.std.specs.Prelude.{◌^◌}
use Rattle.wasmi_module.specs.Texts.{Is, ◌⋅◌, Each}
use Rattle.wasmi_module.specs.Numbers.{IsU32}
use Rattle.wasmi_module.specs.Format.{IsVector, IsBytes, IsName}
use Rattle.wasmi_module.proofs.LawLemmas.{head_same, tail_same, unsigned_once}

abbrev pub Once : {X : Type 0} → (X → List ℕ → Type 0) → Type 0
Once {X} W = (x y : X) (a b u v : List ℕ) → W x a → W y b → a ++ u ≡ b ++ v → (x ≡ y) × (a ≡ b)

-- ---- texts

append_cancel : (a u v : List ℕ) → a ++ u ≡ a ++ v → u ≡ v
append_cancel [] u v e = e
append_cancel (x ∷ a) u v e = append_cancel a u v (tail_same x x (a ++ u) (a ++ v) e)

pub rest_same : (a b u v : List ℕ) → a ++ u ≡ b ++ v → a ≡ b → u ≡ v
rest_same a b u v e same = append_cancel a u v (e ∙ ap (λ (t : List ℕ). t ++ v) (sym same))

pub same_front : (a b u v : List ℕ) → length a ≡ length b → a ++ u ≡ b ++ v → a ≡ b
same_front [] [] u v len e = refl
same_front [] (y ∷ b) u v len e = absurd (omega arith)
same_front (x ∷ a) [] u v len e = absurd (omega arith)
same_front (x ∷ a) (y ∷ b) u v len e =
    let rest = same_front a b u v (omega arith) (tail_same x y (a ++ u) (b ++ v) e) in
    ap (λ (k : ℕ). k ∷ a) (head_same x y (a ++ u) (b ++ v) e) ∙ ap (λ (t : List ℕ). y ∷ t) rest

-- ---- one form after another

whole : (P Q R S : List ℕ → Type 0) (a b u v : List ℕ) (p : (P ⋅ Q) a) (q : (R ⋅ S) b) → a ++ u ≡ b ++ v → p.front ++ (p.back ++ u) ≡ q.front ++ (q.back ++ v)
whole P Q R S a b u v p q e =
    sym (append_assoc p.front p.back u) ∙ ap (λ (t : List ℕ). t ++ u) (sym p.parts) ∙ e ∙ ap (λ (t : List ℕ). t ++ v) q.parts ∙ append_assoc q.front q.back v

joined : (P Q R S : List ℕ → Type 0) (a b : List ℕ) (p : (P ⋅ Q) a) (q : (R ⋅ S) b) → p.front ≡ q.front → p.back ≡ q.back → a ≡ b
joined P Q R S a b p q front back = p.parts ∙ ap (λ (t : List ℕ). t ++ p.back) front ∙ ap (λ (t : List ℕ). q.front ++ t) back ∙ sym q.parts

pub once_then : {X Y : Type 0} (W : X → List ℕ → Type 0) (V : Y → List ℕ → Type 0) → Once W → Once V → Once (λ (z : X × Y). W z.0 ⋅ V z.1)
once_then W V first second x y a b u v p q e =
    let all = whole (W x.0) (V x.1) (W y.0) (V y.1) a b u v p q e in
    let one = first x.0 y.0 p.front q.front (p.back ++ u) (q.back ++ v) p.first q.first all in
    let two = second x.1 y.1 p.back q.back u v p.second q.second (rest_same p.front q.front (p.back ++ u) (q.back ++ v) all one.1) in
    (ap (λ k. (k, x.1)) one.0 ∙ ap (λ k. (y.0, k)) two.0, joined (W x.0) (V x.1) (W y.0) (V y.1) a b p q one.1 two.1)

-- a thing that is seen as another one, and made of that again
pub once_by : {X Z : Type 0} (f : Z → X) (g : X → Z) (W : X → List ℕ → Type 0) → ((z : Z) → g (f z) ≡ z) → Once W → Once (λ z. W (f z))
once_by f g W back once x y a b u v p q e =
    let r = once (f x) (f y) a b u v p q e in
    (sym (back x) ∙ ap g r.0 ∙ back y, r.1)

pub byte_once : Once (λ k. Is (k ∷ []))
byte_once x y a b u v p q e =
    let all : x ∷ u ≡ y ∷ v = ap (λ (t : List ℕ). t ++ u) (sym p) ∙ e ∙ ap (λ (t : List ℕ). t ++ v) q in
    let same = head_same x y u v all in
    (same, p ∙ ap (λ (k : ℕ). k ∷ []) same ∙ sym q)

-- Bytes that begin two texts are one.
pub tags_same : (k l : ℕ) (P Q : List ℕ → Type 0) (a b u v : List ℕ) → (Is (k ∷ []) ⋅ P) a → (Is (l ∷ []) ⋅ Q) b → a ++ u ≡ b ++ v → k ≡ l
tags_same k l P Q a b u v p q e =
    (byte_once k l p.front q.front (p.back ++ u) (q.back ++ v) p.first q.first (whole (Is (k ∷ [])) P (Is (l ∷ [])) Q a b u v p q e)).0

pub after_byte_once : {X : Type 0} (k : ℕ) (W : X → List ℕ → Type 0) → Once W → Once (λ x. Is (k ∷ []) ⋅ W x)
after_byte_once k W once x y a b u v p q e =
    let r = once_then (λ n. Is (n ∷ [])) W byte_once once (k, x) (k, y) a b u v p q e in
    (ap (λ z. z.1) r.0, r.1)

pub before_byte_once : {X : Type 0} (k : ℕ) (W : X → List ℕ → Type 0) → Once W → Once (λ x. W x ⋅ Is (k ∷ []))
before_byte_once k W once x y a b u v p q e =
    let r = once_then W (λ n. Is (n ∷ [])) once byte_once (x, k) (y, k) a b u v p q e in
    (ap (λ z. z.0) r.0, r.1)

-- ---- numbers, lists, names

pub u32_once : Once IsU32
u32_once m n a b u v p q e = let r = unsigned_once (2 ^ 32) m n a b u v p q e in (r.1, r.0)

each_once : {X : Type 0} (W : X → List ℕ → Type 0) → Once W → (xs ys : List X) (a b u v : List ℕ) → length xs ≡ length ys → Each W xs a → Each W ys b → a ++ u ≡ b ++ v → (xs ≡ ys) × (a ≡ b)
each_once W once [] [] a b u v len p q e = (refl, p ∙ sym q)
each_once W once [] (y ∷ ys) a b u v len p q e = absurd (omega arith)
each_once W once (x ∷ xs) [] a b u v len p q e = absurd (omega arith)
each_once W once (x ∷ xs) (y ∷ ys) a b u v len p q e =
    let all = whole (W x) (Each W xs) (W y) (Each W ys) a b u v p q e in
    let one = once x y p.front q.front (p.back ++ u) (q.back ++ v) p.first q.first all in
    let rest = each_once W once xs ys p.back q.back u v (omega arith) p.second q.second (rest_same p.front q.front (p.back ++ u) (q.back ++ v) all one.1) in
    (ap (λ k. k ∷ xs) one.0 ∙ ap (λ ks. y ∷ ks) rest.0, joined (W x) (Each W xs) (W y) (Each W ys) a b p q one.1 rest.1)

pub vector_once : {X : Type 0} (W : X → List ℕ → Type 0) → Once W → Once (IsVector W)
vector_once W once xs ys a b u v p q e =
    let all = whole (IsU32 (length xs)) (Each W xs) (IsU32 (length ys)) (Each W ys) a b u v p q e in
    let len = u32_once (length xs) (length ys) p.front q.front (p.back ++ u) (q.back ++ v) p.first q.first all in
    let items = each_once W once xs ys p.back q.back u v len.0 p.second q.second (rest_same p.front q.front (p.back ++ u) (q.back ++ v) all len.1) in
    (items.0, joined (IsU32 (length xs)) (Each W xs) (IsU32 (length ys)) (Each W ys) a b p q len.1 items.1)

-- these bytes, of the same count
exact_once : (x y a b u v : List ℕ) → length x ≡ length y → Is x a → Is y b → a ++ u ≡ b ++ v → (x ≡ y) × (a ≡ b)
exact_once x y a b u v len p q e =
    let same = same_front x y u v len (ap (λ (t : List ℕ). t ++ u) (sym p) ∙ e ∙ ap (λ (t : List ℕ). t ++ v) q) in
    (same, p ∙ same ∙ sym q)

pub bytes_once : (count : ℕ) → Once (IsBytes count)
bytes_once count x y a b u v p q e = exact_once x y a b u v (p.len ∙ sym q.len) p.written q.written e

-- how many bytes, and then the bytes
pub sized_once : Once (λ bytes. IsU32 (length bytes) ⋅ Is bytes)
sized_once x y a b u v p q e =
    let all = whole (IsU32 (length x)) (Is x) (IsU32 (length y)) (Is y) a b u v p q e in
    let len = u32_once (length x) (length y) p.front q.front (p.back ++ u) (q.back ++ v) p.first q.first all in
    let same = exact_once x y p.back q.back u v len.0 p.second q.second (rest_same p.front q.front (p.back ++ u) (q.back ++ v) all len.1) in
    (same.0, joined (IsU32 (length x)) (Is x) (IsU32 (length y)) (Is y) a b p q len.1 same.1)

pub name_once : Once IsName
name_once x y a b u v p q e = sized_once x y a b u v p.written q.written e
