-- What a `?` passes on, and which errors aren't the same.
-- for src/store.rt
use Rattle.std.proofs.Common.{◌≡◌, Result, Ok, Err, ap, ◌∙◌}
use Rattle.std.specs.Result.{IsErrAnd}
use Rattle.wasmi_arena.specs.declared.error.ArenaError.{ArenaError}
use Rattle.wasmi_arena.specs.declared.error.ArenaError.TheVariants.{DuplicateItem, KeyOutOfBounds, NotEnoughKeys, OutOfSystemMemory}

-- what a `?` passes on is the error that it met
pub passed_is : {T E : Type 0} (r : Result T E) (error : E) → IsErrAnd r (λ e. e ≡ error) → r ≡ Err error
passed_is (Ok x) error is = absurd is
passed_is (Err e) error is = ap Err is

-- what a `?` passes on was met, and what it met is passed on
pub was_met : {T U : Type 0} (r : Result T ArenaError) (error x : ArenaError) → r ≡ Err error → r ≡ Err x → ◌≡◌ {A = Result U ArenaError} (Err error) (Err x)
was_met r error x met is = let same : error ≡ x = cc (met, is) in ap Err same

pub is_passed : {T U : Type 0} (r : Result T ArenaError) (error x : ArenaError) → r ≡ Err error → ◌≡◌ {A = Result U ArenaError} (Err error) (Err x) → r ≡ Err x
is_passed r error x met is = let same : error ≡ x = cc is in met ∙ ap Err same

pub keys_not_memory : {T : Type 0} (r : Result T ArenaError) (error : ArenaError) → r ≡ Err error → r ≡ Err NotEnoughKeys → error ≡ OutOfSystemMemory → ⊥
keys_not_memory r error met keys memory = absurd (cc (met, keys, memory))

pub bound_not_duplicate : {T : Type 0} (error : ArenaError) → error ≡ KeyOutOfBounds → ◌≡◌ {A = Result T ArenaError} (Err error) (Err DuplicateItem) → ⊥
bound_not_duplicate error bound duplicate = absurd (cc (bound, duplicate))
