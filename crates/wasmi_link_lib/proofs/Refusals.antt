-- What a `?` passes on.
-- for src/names.rt, src/types.rt, src/imported.rt, src/linker.rt
use Rattle.std.proofs.Common.{◌≡◌, Result, Ok, Err, ap}
use Rattle.std.specs.Result.{IsErrAnd, IsErrOf}
use Rattle.wasmi_arena.specs.declared.error.ArenaError.{ArenaError}
use Rattle.wasmi_arena.specs.declared.error.ArenaError.TheVariants.{NotEnoughKeys}

-- where there was no key, it was met there
pub was_met : {T U : Type 0} (r : Result T ArenaError) (error : ArenaError) → IsErrAnd r (λ e. e ≡ error) → IsErrOf r NotEnoughKeys → IsErrOf {T = U} (Err error) NotEnoughKeys
was_met (Ok x) error met is = absurd met
was_met (Err e) error met is = let same : error ≡ NotEnoughKeys = cc (met, is) in ap Err same
