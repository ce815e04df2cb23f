-- What is left of a list once two items of it were written.
use Rattle.std.specs.Prelude.{ℕ, List, [], ◌∷◌, Result, Ok, Err, slice_set}
use Rattle.std.specs.Borrow.{Fml, GName, RattleType, MutBor, follows_both_if}
use mathlib.Core.Option as maybe

-- the names of the two references, where there are any
abbrev pub names_if_ok : {A B E : Type 0} → Result (MutBor A × MutBor B) E → maybe.Option (GName × GName)
names_if_ok (Ok pair) = maybe.some (pair.0.ghost_name, pair.1.ghost_name)
names_if_ok (Err error) = maybe.none

module _ (R T : RattleType) (lender : MutBor R.Denot) {E : Type 0} (pair : Result (MutBor T.Denot × MutBor T.Denot) E) where
  -- with two references, the lender ends as F of what was written last through them, and after an error
  -- it is as before
  abbrev pub LendsBothIfOk : (T.Denot → T.Denot → R.Denot) → Fml
  LendsBothIfOk F = follows_both_if R T T lender.ghost_name (names_if_ok pair) F lender.now

-- the list with other items under two keys
abbrev pub with_both : {K T : Type 0} → (K → ℕ) → List T → List K → T → T → List T
with_both number items (one ∷ other ∷ []) first second = slice_set (slice_set items (number one) first) (number other) second
with_both number items _ first second = items
