use Rattle.wasmi_link_lib.proofs.Matches.{matches-Decides}
use Rattle.wasmi_link_lib.proofs.laws.matching_types.Goals as goal

pub returns : goal.returns
returns c = matches-Decides
