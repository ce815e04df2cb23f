-- Facts on results, and on those that are known to be values.
-- for src/arena/dedup.rt, src/arena/dedup/replace.rt
use Rattle.std.proofs.Common.{Result, Ok, Err, IsOk, OnOk, IsOkUnless, ◌≡◌, refl, sym, ap, true≢false}

-- where the one error that there is doesn't come
pub ok_unless : {X E : Type 0} (r : Result X E) (e : E) → IsOkUnless r e → (r ≡ Err e → ⊥) → IsOk r
ok_unless (Ok x) e is other = refl
ok_unless (Err x) e is other = absurd (other (ap Err is))

pub when_ok : {X E P : Type 0} (r : Result X E) → IsOk r → OnOk r P → P
when_ok (Ok x) ok h = h
when_ok (Err e) ok h = absurd (true≢false (sym ok))

pub on_ok : {X E P : Type 0} (r : Result X E) → P → OnOk r P
on_ok (Ok x) h = h
on_ok (Err e) h = tt
