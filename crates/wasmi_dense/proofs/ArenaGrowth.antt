-- Facts on blocks that grow with the items, one by one.
-- for src/arena/grow.rt
use Rattle.std.proofs.Common.{◌≡◌, ℕ, suc, ◌+◌, ◌<◌, ◌^◌, max, inl, inr, arith}
use Rattle.std.proofs.Math.Nat.{pow-succ'}
use Rattle.std.proofs.lemmas.Nat.{pow_pos}
use Rattle.wasmi_dense.specs.ArenaGrowth.{FillsBlock}

-- a full block makes way for one of twice its size, or for the first
pub fills_twice : (full larger : ℕ) → larger ≡ full + max full 4 → FillsBlock full → FillsBlock larger
fills_twice full larger grown (inl none) = inr (0, omega arith)
fills_twice full larger grown (inr some) =
    let is = some.1 in let twice = pow-succ' 2 some.0 in let any : 0 < 2 ^ some.0 = pow_pos some.0 in inr (suc some.0, omega arith)
