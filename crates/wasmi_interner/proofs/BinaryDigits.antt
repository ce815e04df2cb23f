-- Facts on the number of binary digits.
-- for src/probe.rt, src/sought.rt, src/index.rt, src/laws.rt
use Rattle.std.proofs.Common.{◌≡◌, ℕ, zero, suc, ◌+◌, ◌/◌, ◌^◌, ◌<◌, ◌≤◌, refl, ap, arith, inl, inr}
use Rattle.std.proofs.lemmas.Bool.{cases_lt}
use Rattle.std.proofs.Math.Nat.{pow-succ'}
use Rattle.std.proofs.Math.Pow.{pow_mono}
use Rattle.wasmi_interner.specs.BinaryDigits.{digits_up_to, digits}

digits_up_to_mono : (most m n : ℕ) → m ≤ n → digits_up_to most m ≤ digits_up_to most n
digits_up_to_mono zero m n h = omega arith
digits_up_to_mono (suc most) zero n h = omega arith
digits_up_to_mono (suc most) (suc m) zero h = absurd (omega arith)
digits_up_to_mono (suc most) (suc m) (suc n) h =
    let halves = digits_up_to_mono most (suc m / 2) (suc n / 2) (omega arith) in omega arith

-- a number below 2^most has no digit past the first `most`
digits_up_to-suc : (most n : ℕ) → n < 2 ^ most → digits_up_to (suc most) n ≡ digits_up_to most n
digits_up_to-suc zero zero h = refl
digits_up_to-suc zero (suc n) h = absurd (omega arith)
digits_up_to-suc (suc most) zero h = refl
digits_up_to-suc (suc most) (suc n) h =
    ap suc (digits_up_to-suc most (suc n / 2) (omega (arith, pow-succ' 2 most)))

digits_up_to_le : (most n : ℕ) → digits_up_to most n ≤ most
digits_up_to_le zero n = omega arith
digits_up_to_le (suc most) zero = omega arith
digits_up_to_le (suc most) (suc n) = let half = digits_up_to_le most (suc n / 2) in omega arith

-- with more digits to come a number has no fewer
digits_up_to_more : (most n : ℕ) → digits_up_to most n ≤ digits_up_to (suc most) n
digits_up_to_more zero n = omega arith
digits_up_to_more (suc most) zero = omega arith
digits_up_to_more (suc most) (suc n) = let half = digits_up_to_more most (suc n / 2) in omega arith

digits_up_to_above : (most n : ℕ) → n < 2 ^ most → n < 2 ^ digits_up_to most n
digits_up_to_above zero n h = h
digits_up_to_above (suc most) zero h = omega arith
digits_up_to_above (suc most) (suc n) h =
    let half = digits_up_to_above most (suc n / 2) (omega (arith, pow-succ' 2 most)) in
    omega (arith, half, pow-succ' 2 (digits_up_to most (suc n / 2)))

digits_up_to_least : (most n d : ℕ) → n < 2 ^ d → digits_up_to most n ≤ d
digits_up_to_least zero n d h = omega arith
digits_up_to_least (suc most) zero d h = omega arith
digits_up_to_least (suc most) (suc n) zero h = absurd (omega arith)
digits_up_to_least (suc most) (suc n) (suc d) h =
    let half = digits_up_to_least most (suc n / 2) d (omega (arith, pow-succ' 2 d)) in omega (arith, half)

-- a number is below the power of two with so many digits
pub digits_above : (n : ℕ) → n < 2 ^ 64 → n < 2 ^ digits n
unfolding digits
digits_above n h = digits_up_to_above 64 n h

-- and below none that is less
pub digits_least : (n d : ℕ) → n < 2 ^ d → digits n ≤ d
unfolding digits
digits_least n d h = digits_up_to_least 64 n d h

pub digits_le : (n : ℕ) → digits n ≤ 64
unfolding digits
digits_le n = digits_up_to_le 64 n

-- half of a number has one digit less
pub digits_half : (m n : ℕ) → 0 < n → n < 2 ^ 64 → m ≤ n / 2 → digits m + 1 ≤ digits n
unfolding digits
digits_half m zero some small half = absurd (omega arith)
digits_half m (suc n) some small half =
    let below : suc n / 2 < 2 ^ 63 = omega arith in
    let first = digits_up_to_mono 64 m (suc n / 2) half in
    let same = digits_up_to-suc 63 (suc n / 2) below in
    omega arith

-- and a number at most one above the double has at most one digit more
pub digits_double : (m n : ℕ) → n ≤ m + m + 1 → digits n ≤ digits m + 1
unfolding digits
digits_double m zero h = omega arith
digits_double m (suc n) h =
    let halves = digits_up_to_mono 63 (suc n / 2) m (omega (arith, h)) in
    let more = digits_up_to_more 63 m in
    omega (arith, halves, more)

-- from a power of two on a number has more digits than that
pub digits_from : (n d : ℕ) → n < 2 ^ 64 → 2 ^ d ≤ n → d < digits n
digits_from n d small from = elim (cases_lt d (digits n)) [
  | inl more ↦ more
  | inr less ↦ absurd (let large : 2 ^ digits n ≤ 2 ^ d = pow_mono {i = digits n} {j = d} less in omega (arith, digits_above n small))
]

pub digits_mono : (m n : ℕ) → m ≤ n → digits m ≤ digits n
unfolding digits
digits_mono m n h = digits_up_to_mono 64 m n h

-- a number above 0 has a digit
pub digits_some : (n : ℕ) → 0 < n → 0 < digits n
unfolding digits
digits_some zero some = absurd (omega arith)
digits_some (suc n) some = omega arith
