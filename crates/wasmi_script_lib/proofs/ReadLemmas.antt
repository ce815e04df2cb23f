-- What reads up to the end have read.
-- for src/program.rt
use Rattle.std.proofs.Common.{◌≡◌, ℕ, ◌<◌, List, [], ◌++◌, length, take, Option, Some, None, append-nil, ap, sym, ◌∙◌}
use Rattle.std.specs.Prelude.{IfSome}
use Rattle.std.specs.Io.KnownBytes.{Consumes, IsAtEnd}

-- where a read gives nothing, all was read before
pub read-to_end : (old now new : Option (List ℕ)) (input buffer : List ℕ) (count : ℕ) → Consumes old now input → count ≡ 0 → 0 < length buffer
    → Consumes now new (take count buffer) × (count ≡ 0 → 0 < length buffer → IsAtEnd new) → IfSome old (λ all. input ≡ all)
read-to_end None now new input buffer count before none room read = tt
read-to_end (Some xs) None new input buffer count before none room read = absurd before
read-to_end (Some xs) (Some ys) None input buffer count before none room read = absurd read.0
read-to_end (Some xs) (Some ys) (Some zs) input buffer count before none room read =
    let left : ys ≡ [] = read.0 ∙ (ap (λ n. take n buffer ++ zs) none ∙ read.1 none room) in
    sym (before ∙ (ap (λ rest. input ++ rest) left ∙ append-nil input))
