-- What an `Option` is once a `&mut` to its value has ended.
use Rattle.std.specs.Prelude.{Option, Some}
use Rattle.std.specs.Borrow.{Fml, RattleType, MutBor, Lends}
use Rattle.core.specs.contracts.option.Option.{the_row}

module _ (R : RattleType) where
  -- it has the value that was written last through the reference
  abbrev pub lends_value : MutBor (Option R.Denot) → MutBor R.Denot → Fml
  lends_value option value = Lends (the_row R) R option value Some
