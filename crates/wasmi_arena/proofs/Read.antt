-- What `ok_or` makes of an item that is read from a list, and of a key.
use Rattle.std.proofs.Common.{◌≡◌, ℕ, ◌<◌, ◌≤◌, ◌↔◌, min, List, length, Option, Some, None, Bor, slice_get, SomeIff, OnOk, IsErrOf, refl, arith}
use Rattle.std.proofs.lemmas.Option.{slice_get_past, slice_get_cases}
use Rattle.core.specs.Option.{ok_or, option_copied}

-- an item is read, or its place is past the end
pub refused_past : {T E : Type 0} {e : E} (xs : List T) (n : ℕ) (there : Option (Bor T)) → option_copied there ≡ slice_get xs n → IsErrOf (ok_or there e) e ↔ (length xs ≤ n)
refused_past xs n None is = grind (arith, slice_get_cases xs n)
refused_past xs n (Some x) is = (λ err. cc, λ beyond. let none = slice_get_past xs n beyond in cc)

module _ {K E : Type 0} {n most : ℕ} (e : E) (count : ℕ) (key : K) where
  -- a number below `most` has its key, or there are no more keys
  pub key-has : (there : Option K) → SomeIff there (n < count) key → n < most → OnOk (ok_or there e) (n < min count most)
  key-has None none below = tt
  key-has (Some k) has below = let counted = has.0 in omega arith

  pub key-refused : (there : Option K) → SomeIff there (n < count) key → n < most → IsErrOf (ok_or there e) e ↔ (min count most ≤ n)
  key-refused None none below = (λ err. omega (arith, none), λ full. refl)
  key-refused (Some k) has below = (λ err. cc, λ full. let counted = has.0 in absurd (omega arith))
