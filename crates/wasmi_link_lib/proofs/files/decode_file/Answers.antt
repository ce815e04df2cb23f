use Rattle.wasmi_link_lib.proofs.FileLemmas.{no_module}
use Rattle.wasmi_link_lib.proofs.files.decode_file.Goals as goal

pub returns-in_err-module-clause-none : goal.returns-in_err-module-clause-none
returns-in_err-module-clause-none g c = no_module c.args.file.now c.in_err-module.field-0.0 c.from_residual.result c.from_residual.ensures.1 c.in_err-module.ensures.refused
