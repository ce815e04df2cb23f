-- The key law of each type of keys.
use Rattle.std.proofs.Common.{ℕ, ◌≤◌, ◌^◌, refl, lit≤}
use Rattle.std.proofs.Math.Nat.{add-sub_cancel}
use Rattle.wasmi_arena.specs.Keys.{KeyLaw, own_keys, non_zero_u32_keys, non_zero_usize_keys}

-- numbers that are their own keys obey the law, where there are at most 2^64
pub own_keys_law : (count : ℕ) → count ≤ 2 ^ 64 → KeyLaw (own_keys count)
own_keys_law count few = record { few = few; numbered = λ n below. refl }

-- so do these of 32 bits
pub non_zero_u32_law : KeyLaw non_zero_u32_keys
non_zero_u32_law = record { few = lit≤ tt; numbered = λ n below. add-sub_cancel n 1 }

-- and these of 64
pub non_zero_usize_law : KeyLaw non_zero_usize_keys
non_zero_usize_law = record { few = lit≤ tt; numbered = λ n below. add-sub_cancel n 1 }
