-- How many binary digits a number has.
use Rattle.std.specs.Prelude.{ℕ, zero, suc, ◌/◌}

-- the number of binary digits of n, where it is at most `most`: 0 has none, and another number has one
-- more than its half
abbrev pub digits_up_to : ℕ → ℕ → ℕ
digits_up_to zero n = 0
digits_up_to (suc most) zero = 0
digits_up_to (suc most) (suc n) = suc (digits_up_to most (suc n / 2))

-- the number of binary digits of n, for n below 2^64.
-- Of 1000: 10.
unfoldable pub digits : ℕ → ℕ
digits n = digits_up_to 64 n
