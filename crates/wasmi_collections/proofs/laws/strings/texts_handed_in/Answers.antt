use Rattle.wasmi_collections.proofs.DedupTexts.{distinct_bytes, texts_allocated, texts_replaced}
use Rattle.wasmi_collections.proofs.laws.strings.texts_handed_in.Goals as goal

pub returns-clause-allocated : goal.returns-clause-allocated
returns-clause-allocated g c old new value key absent given = texts_allocated g.Key.ArenaKey.keys old new value key absent given

pub returns-clause-replaced : goal.returns-clause-replaced
returns-clause-replaced g c old new key value there absent given = texts_replaced g.Key.ArenaKey.keys old new key value there absent given

pub returns-clause-distinct : goal.returns-clause-distinct
returns-clause-distinct g c texts distinct = distinct_bytes texts distinct
