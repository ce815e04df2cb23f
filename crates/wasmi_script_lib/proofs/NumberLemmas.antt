-- What `parse` says of a text without a sign, as the number of that text.
-- for src/line.rt
use Rattle.std.proofs.Common.{◌≡◌, ℕ, ◌<◌, ◌^◌, Bool, true, false, cond, List, [], ◌∷◌, length, Some, None, Result, Ok, Err, refl, arith, ltb, ap, ◌&&◌}
use Rattle.std.specs.Result.{OkIff, result_ok}
use Rattle.std.specs.Str.{all_ascii_digits}
use Rattle.std.specs.Str.Parse.{digits_value}
use Rattle.std.proofs.lemmas.Str.Parse.{IsNumeralModel, numerals_by_value, tells_all_ascii_digits}
use Rattle.std.proofs.lemmas.Bool.{lt-ltb, ltb-true}
use Rattle.wasmi_script_lib.specs.Requests.{number_of}

-- ASCII digits are the digits that `parse` reads
pub numerals : IsNumeralModel (λ ds. all_ascii_digits ds ≡ true) (digits_value 10)
numerals = numerals_by_value _ tells_all_ascii_digits

-- a result that is right where three facts hold, as the choice of two tests
picked : {E : Type 0} (a b : Bool) (v : ℕ) (Some' Small : Type 0) → Some' → (Small → b ≡ true) → (b ≡ true → Small)
    → (r : Result ℕ E) → OkIff r ((a ≡ true) × Some' × Small) v → result_ok r ≡ cond (a && b) (Some v) None
picked a b v Some' Small some to from (Ok x) h = rw (h.0.0, to h.0.2) (ap Some h.1)
picked true true v Some' Small some to from (Err e) h = absurd (h (refl, some, from refl))
picked true false v Some' Small some to from (Err e) h = refl
picked false b v Some' Small some to from (Err e) h = refl

pub number_of-parse : {E : Type 0} (bs : List ℕ) (r : Result ℕ E)
    → OkIff r ((all_ascii_digits bs ≡ true) × (0 < length bs) × (digits_value 10 bs < 2 ^ 64)) (digits_value 10 bs)
    → result_ok r ≡ number_of bs
number_of-parse [] (Ok x) h = absurd (omega (arith, h.0.1))
number_of-parse [] (Err e) h = refl
number_of-parse (d ∷ ds) r h =
    picked (all_ascii_digits (d ∷ ds)) (ltb (digits_value 10 (d ∷ ds)) (2 ^ 64)) (digits_value 10 (d ∷ ds)) (0 < length (d ∷ ds)) (digits_value 10 (d ∷ ds) < 2 ^ 64)
    (omega arith) (lt-ltb _ _) (ltb-true _ _) r h
