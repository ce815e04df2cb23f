use Rattle.std.proofs.Common.{◌∙◌}
use Rattle.wasmi_arena.proofs.WalkedKeys.{given_all}
use Rattle.wasmi_arena.proofs.laws.walked_entries_are_all.Goals as goal

pub returns : goal.returns
returns g c = λ items start seen now begun gave none. given_all (λ entry. (entry.0, entry.1.now)) start seen now gave none ∙ begun
