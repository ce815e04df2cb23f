use Rattle.wasmi_collections.proofs.NewKeys.{keys_in_turn, keys_since_clear}
use Rattle.wasmi_collections.proofs.laws.dedup.keys_of_new_values.Goals as goal

pub returns-clause-in_order : goal.returns-clause-in_order
returns-clause-in_order g c = keys_in_turn g.Key.ArenaKey.keys g.met.Key.ArenaKey.key_law g.met.T.Eq.laws g.T.Clone.is_clone

pub returns-clause-since_clear : goal.returns-clause-since_clear
returns-clause-since_clear g c = keys_since_clear g.Key.ArenaKey.keys g.met.Key.ArenaKey.key_law g.met.T.Eq.laws g.T.Clone.is_clone
