use Rattle.wasmi_link_lib.proofs.PathLemmas.{behind_slash, without_slash}
use Rattle.wasmi_link_lib.proofs.path.file_name.Goals as goal

pub returns-in-Some : goal.returns-in-Some
returns-in-Some c = behind_slash c.args.path.now _ _ c.in-Some.ensures.cases

pub returns-in-None : goal.returns-in-None
returns-in-None c = without_slash c.args.path.now c.in-None.ensures.cases
