use Rattle.wasmi_collections.proofs.DedupReads.{no_place_tested, position_by_key, tested_by_place}
use Rattle.wasmi_collections.proofs.laws.dedup.searched_by_keys.Goals as goal

pub returns-clause-test : goal.returns-clause-test
returns-clause-test g c values default value place k distinct is below = tested_by_place g.met.T.Eq.laws value values default distinct place k is below

pub returns-clause-no_key : goal.returns-clause-no_key
returns-clause-no_key g c values default value k distinct none below = no_place_tested g.met.T.Eq.laws value values default distinct k none below

pub returns-clause-position : goal.returns-clause-position
returns-clause-position g c values default value place keys distinct is within =
    position_by_key g.met.T.Eq.laws value values default distinct g.Key.ArenaKey.keys.number place is keys within
