use Rattle.std.proofs.Common.{map, subst, sym}
use Rattle.std.specs.List.{AllZip}
use Rattle.std.proofs.lemmas.Result.{IfErr-weaker}
use Rattle.wasmi_link_lib.specs.Files.{IsIn}
use Rattle.wasmi_link_lib.specs.Linking.{AreValid, named_of}
use Rattle.wasmi_link_lib.proofs.FileLemmas.{refusal-shortage}
use Rattle.wasmi_link_lib.proofs.files.link.Goals as goal

pub link_modules-requires : goal.link_modules-requires
link_modules-requires g c = subst (λ ms. AreValid (map named_of ms)) (sym c.deref.ensures.value) c.in_ok-modules.ensures.valid

pub returns-clause-errors : goal.returns-clause-errors
returns-clause-errors g c =
    let read = subst (λ ms. AllZip IsIn c.args.files.now (map named_of ms)) (sym c.deref.ensures.value) c.in_ok-modules.ensures.read in
    IfErr-weaker c.link_modules.result _ _ (refusal-shortage c.args.files.now (map named_of c.deref.result.now) read) c.link_modules.ensures.errors
