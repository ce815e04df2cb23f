use Rattle.wasmi_arena.proofs.Doubling.{fewest_is_least, fewest_is}
use Rattle.wasmi_arena.proofs.laws.fewest_is_least.Goals as goal

pub returns-clause-least : goal.returns-clause-least
returns-clause-least c = fewest_is_least

pub returns-clause-alone : goal.returns-clause-alone
returns-clause-alone c = λ n b small few. fewest_is small few
