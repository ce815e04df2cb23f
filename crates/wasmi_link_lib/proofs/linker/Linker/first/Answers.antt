use Rattle.std.proofs.Common.{◌∙◌}
use Rattle.wasmi_link_lib.proofs.linker.Linker.first.Goals as goal

pub returns : goal.returns
returns g c = λ modules name linker is. c.copied.ensures ∙ c.get.ensures ∙ linker.has_firsts name c.args.symbol is
