-- What a type of keys is.
use Rattle.std.specs.Prelude.{◌≡◌, ℕ, ◌+◌, ◌-◌, ◌<◌, ◌≤◌, ◌^◌}
use Rattle.std.specs.declared.num.NonZeroU32.{NonZeroU32}
use Rattle.std.specs.declared.num.NonZeroUsize.{NonZeroUsize}
use Rattle.std.proofs.Common.{arith}

-- so many keys: `key n` is the key of the number n, and `number k` is the number of the key k
pub record Keys (K : Type 0) : Type 0 where
  pub count : ℕ
  pub key : ℕ → K
  pub number : K → ℕ

-- there are at most 2^64 keys, and each number below their count is the number of its key.
-- Of `NonZero<u32>` the key of 0 holds 1, and its number is 0.
pub record KeyLaw {K : Type 0} (keys : Keys K) : Type 0 where
  pub few : keys.count ≤ 2 ^ 64
  pub numbered : (n : ℕ) → n < keys.count → keys.number (keys.key n) ≡ n

-- a number of so many values is its own key.
-- Of `u32` the keys are `own_keys (2 ^ 32)`.
abbrev pub own_keys : ℕ → Keys ℕ
own_keys count = record { count = count; key = λ n. n; number = λ k. k }

pub above_zero : (n : ℕ) → 0 < n + 1
above_zero n = omega arith

-- the key of n holds n + 1, so the greatest number of the type has none.
-- So `NonZero::<u32>::from_usize(4294967295)` is `None`.
abbrev pub non_zero_u32_keys : Keys NonZeroU32
non_zero_u32_keys = record {
  count = 2 ^ 32 - 1;
  key = λ n. record { value = n + 1; ok = above_zero n };
  number = λ k. k.value - 1;
}

-- the same of 64 bits
abbrev pub non_zero_usize_keys : Keys NonZeroUsize
non_zero_usize_keys = record {
  count = 2 ^ 64 - 1;
  key = λ n. record { value = n + 1; ok = above_zero n };
  number = λ k. k.value - 1;
}
