use Rattle.wasmi_collections.proofs.DedupRuns.{both_given}
use Rattle.wasmi_collections.proofs.laws.equal_values_share_a_key.Goals as goal

pub returns : goal.returns
returns g c = both_given g.Key.ArenaKey.keys g.met.Key.ArenaKey.key_law g.met.T.Eq.laws g.T.Clone.is_clone
