use Rattle.wasmi_collections.proofs.NewKeys.{symbols_in_turn}
use Rattle.wasmi_collections.proofs.laws.interner.symbols_of_new_texts.Goals as goal

pub returns : goal.returns
returns c = symbols_in_turn
