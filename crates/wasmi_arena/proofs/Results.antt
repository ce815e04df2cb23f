-- Facts on results and their errors.
use Rattle.std.proofs.Common.{◌≡◌, Result, Ok, Err, IsErrAnd, ap, is_ok, true≢false}

-- a value is no error
pub ok-err : {T E : Type 0} {x : T} {e : E} → Ok x ≡ Err e → ⊥
ok-err is = true≢false (ap is_ok is)

-- an error that is another
pub same_error : {T E : Type 0} {x y : E} → ◌≡◌ {A = Result T E} (Err x) (Err y) → x ≡ y
same_error is = cc

-- what a `?` returns where the error stays as it is
pub err_returned : {T E : Type 0} {e : E} (r : Result T E) → IsErrAnd r (λ y. y ≡ e) → r ≡ Err e
err_returned (Ok x) is = absurd is
err_returned (Err y) is = ap (λ e. Err e) is
