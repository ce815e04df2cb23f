-- What the definition of LEB128 implies.
-- for src/laws.rt
use Rattle.std.proofs.Common.{◌≡◌, ℕ, ◌/◌, List, [], ◌∷◌, ◌++◌, sym, ap, ◌∙◌, arith, inl, inr}
use Rattle.std.specs.Prelude.{ℤ, pos}
use Rattle.std.proofs.lemmas.Int.{ints}
use Rattle.wasmi_module.specs.Numbers.{IsUnsigned, IsSigned}

pub head_same : (c d : ℕ) (x y : List ℕ) → c ∷ x ≡ d ∷ y → c ≡ d
head_same c d x y e = cc

pub tail_same : (c d : ℕ) (x y : List ℕ) → c ∷ x ≡ d ∷ y → x ≡ y
tail_same c d x y e = cc

pub unsigned_once : (limit m n : ℕ) (a b x y : List ℕ) → IsUnsigned limit m a → IsUnsigned limit n b → a ++ x ≡ b ++ y → (a ≡ b) × (m ≡ n)
unsigned_once limit m n [] b x y p q e = absurd p
unsigned_once limit m n (c ∷ []) [] x y p q e = absurd q
unsigned_once limit m n (c ∷ d ∷ a) [] x y p q e = absurd q
unsigned_once limit m n (c ∷ []) (d ∷ []) x y p q e =
    let same = head_same c d x y e in
    (ap (λ (k : ℕ). k ∷ []) same, p.2 ∙ same ∙ sym q.2)
unsigned_once limit m n (c ∷ []) (d ∷ f ∷ b) x y p q e =
    let same = head_same c d x (f ∷ b ++ y) e in absurd (omega (arith, p.0, q.0))
unsigned_once limit m n (c ∷ f ∷ a) (d ∷ []) x y p q e =
    let same = head_same c d (f ∷ a ++ x) y e in absurd (omega (arith, p.0, q.0))
unsigned_once limit m n (c ∷ f ∷ a) (d ∷ g ∷ b) x y p q e =
    let same = head_same c d (f ∷ a ++ x) (g ∷ b ++ y) e in
    let rest = unsigned_once (limit / 128) p.3 q.3 (f ∷ a) (g ∷ b) x y p.5 q.5 (tail_same c d (f ∷ a ++ x) (g ∷ b ++ y) e) in
    let numbers : m ≡ n = omega (arith, p.4, q.4, rest.1) in
    (ap (λ (k : ℕ). k ∷ f ∷ a) same ∙ ap (λ (t : List ℕ). d ∷ t) rest.0, numbers)

pub signed_once : (half : ℕ) (m n : ℤ) (a b x y : List ℕ) → IsSigned half m a → IsSigned half n b → a ++ x ≡ b ++ y → (a ≡ b) × (m ≡ n)
signed_once half m n [] b x y p q e = absurd p
signed_once half m n (c ∷ []) [] x y p q e = absurd q
signed_once half m n (c ∷ d ∷ a) [] x y p q e = absurd q
signed_once half m n (c ∷ []) (d ∷ []) x y (inl p) (inl q) e =
    let same = head_same c d x y e in
    (ap (λ (k : ℕ). k ∷ []) same, p.2 ∙ ap pos same ∙ sym q.2)
signed_once half m n (c ∷ []) (d ∷ []) x y (inl p) (inr q) e = let same = head_same c d x y e in absurd (omega (arith, p.0, q.0))
signed_once half m n (c ∷ []) (d ∷ []) x y (inr p) (inl q) e = let same = head_same c d x y e in absurd (omega (arith, p.0, q.0))
signed_once half m n (c ∷ []) (d ∷ []) x y (inr p) (inr q) e =
    let same = head_same c d x y e in
    let numbers : m ≡ n = omega (arith, ints, p.3, q.3) in
    (ap (λ (k : ℕ). k ∷ []) same, numbers)
signed_once half m n (c ∷ []) (d ∷ f ∷ b) x y (inl p) q e = let same = head_same c d x (f ∷ b ++ y) e in absurd (omega (arith, p.0, q.0))
signed_once half m n (c ∷ []) (d ∷ f ∷ b) x y (inr p) q e = let same = head_same c d x (f ∷ b ++ y) e in absurd (omega (arith, p.1, q.0))
signed_once half m n (c ∷ f ∷ a) (d ∷ []) x y p (inl q) e = let same = head_same c d (f ∷ a ++ x) y e in absurd (omega (arith, p.0, q.0))
signed_once half m n (c ∷ f ∷ a) (d ∷ []) x y p (inr q) e = let same = head_same c d (f ∷ a ++ x) y e in absurd (omega (arith, p.0, q.1))
signed_once half m n (c ∷ f ∷ a) (d ∷ g ∷ b) x y p q e =
    let same = head_same c d (f ∷ a ++ x) (g ∷ b ++ y) e in
    let rest = signed_once (half / 128) p.3 q.3 (f ∷ a) (g ∷ b) x y p.5 q.5 (tail_same c d (f ∷ a ++ x) (g ∷ b ++ y) e) in
    let numbers : m ≡ n = omega (arith, ints, p.4, q.4, rest.1) in
    (ap (λ (k : ℕ). k ∷ f ∷ a) same ∙ ap (λ (t : List ℕ). d ∷ t) rest.0, numbers)
