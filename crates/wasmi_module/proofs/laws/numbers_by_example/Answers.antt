use Rattle.std.proofs.Common.{refl, inr, arith}
use Rattle.std.specs.Prelude.{negsuc}
use Rattle.std.proofs.lemmas.Int.{ints}
use Rattle.wasmi_module.proofs.laws.numbers_by_example.Goals as goal

pub returns-clause-plain : goal.returns-clause-plain
returns-clause-plain c =
    (omega arith, omega arith, omega arith, 4878, omega arith, (omega arith, omega arith, omega arith, 38, omega arith, (omega arith, omega arith, refl)))

pub returns-clause-padded : goal.returns-clause-padded
returns-clause-padded c = (omega arith, omega arith, omega arith, 0, omega arith, (omega arith, omega arith, refl))

pub returns-clause-greatest : goal.returns-clause-greatest
returns-clause-greatest c = (
  omega arith,
  omega arith,
  omega arith,
  33554431,
  omega arith,
  (
    omega arith,
    omega arith,
    omega arith,
    262143,
    omega arith,
    (
      omega arith,
      omega arith,
      omega arith,
      2047,
      omega arith,
      (
        omega arith,
        omega arith,
        omega arith,
        15,
        omega arith,
        (omega arith, omega arith, refl),
      ),
    ),
  ),
)

pub returns-clause-negative : goal.returns-clause-negative
returns-clause-negative c = (
  omega arith,
  omega arith,
  omega arith,
  negsuc 964,
  omega (arith, ints),
  (
    omega arith,
    omega arith,
    omega arith,
    negsuc 7,
    omega (arith, ints),
    inr (omega arith, omega arith, omega arith, omega (arith, ints)),
  ),
)
