use Rattle.std.proofs.Common.{◌≢◌, arith, inl, refl, rules, subst, sym}
use Rattle.wasmi_module.specs.declared.error.DecodeError.TheVariants.{NoMemory}
use Rattle.std.proofs.lemmas.Result.{err_from_is_err_and}
use Rattle.wasmi_link_lib.specs.Files.{IsNoModule, IsRefusal}
use Rattle.wasmi_link_lib.proofs.FileLemmas.{one_more_file, valid_in, file_at}
use Rattle.wasmi_link_lib.proofs.files.decode_all.Goals as goal

pub loop-place-preserved : goal.loop-place-preserved
loop-place-preserved g c = one_more_file c.args.files.now c.loop-place.place _ _ _ c.in-Ok.named _ (omega arith) refl c.loop-place.invariant c.in-Ok.ensures.ok c.in_ok-push-in-Ok.ensures.items

pub returns-clause-valid : goal.returns-clause-valid
returns-clause-valid g c = valid_in _ _ c.loop-place.invariant

pub returns-in_err-push-in-Ok-clause-errors : goal.returns-in_err-push-in-Ok-clause-errors
returns-in_err-push-in-Ok-clause-errors g c =
    let p = err_from_is_err_and c.from_residual.result c.from_residual.ensures.1 in
    rw p.1 (subst (IsRefusal c.args.files.now) (sym p.2) (inl refl))

pub returns-in-Err-clause-errors : goal.returns-in-Err-clause-errors
returns-in-Err-clause-errors g c =
    let other : c.in-Err.error ≢ NoMemory = search rules in
    (file_at IsNoModule c.args.files.now c.loop-place.place _ (omega arith) (c.in-Err.ensures.none other), other, _, c.loop-place.invariant)
