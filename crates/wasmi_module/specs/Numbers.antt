-- Numbers in LEB128: seven bits a byte, the low ones first. A number may have several writings.
use Rattle.std.specs.Prelude.{◌≡◌, ℕ, ◌+◌, ◌*◌, ◌/◌, ◌^◌, ◌<◌, ◌≤◌, ℤ, pos, ◌+ℤ◌, ◌*ℤ◌, ◌⊎◌, List, [], ◌∷◌}

-- A number below limit. A byte below 128 is the last, and stands for itself. One from 128 on stands
-- for itself less 128, and the bytes after it for a number below limit / 128, times 128. So a number
-- below 2 ^ 32 has at most five bytes.
abbrev pub IsUnsigned : ℕ → ℕ → List ℕ → Type 0
IsUnsigned limit n [] = ⊥
IsUnsigned limit n (b ∷ []) = (b < 128) × (b < limit) × (n ≡ b)
IsUnsigned limit n (b ∷ c ∷ bs) = (128 ≤ b) × (b < 256) × (128 < limit) × (high : ℕ) × (n + 128 ≡ b + 128 * high) × IsUnsigned (limit / 128) high (c ∷ bs)

-- a number from -half on, and below half. A last byte from 64 on stands for itself less 128.
abbrev pub IsSigned : ℕ → ℤ → List ℕ → Type 0
IsSigned half n [] = ⊥
IsSigned half n (b ∷ []) = ((b < 64) × (b < half) × (n ≡ pos b)) ⊎ ((64 ≤ b) × (b < 128) × (128 ≤ b + half) × (n +ℤ pos 128 ≡ pos b))
IsSigned half n (b ∷ c ∷ bs) = (128 ≤ b) × (b < 256) × (64 < half) × (high : ℤ) × (n +ℤ pos 128 ≡ pos b +ℤ (pos 128 *ℤ high)) × IsSigned (half / 128) high (c ∷ bs)

-- a number below 2 ^ 32
abbrev pub IsU32 : ℕ → List ℕ → Type 0
IsU32 = IsUnsigned (2 ^ 32)

-- a signed number of 32 bits
abbrev pub IsI32 : ℤ → List ℕ → Type 0
IsI32 = IsSigned (2 ^ 31)

-- a signed number of 64 bits
abbrev pub IsI64 : ℤ → List ℕ → Type 0
IsI64 = IsSigned (2 ^ 63)
