use Rattle.wasmi_collections.proofs.DedupReplace.{allocates-there, allocates-absent, replaces-known, replaces-gone}
use Rattle.wasmi_collections.proofs.laws.replaced_values.Goals as goal

pub returns-clause-value : goal.returns-clause-value
returns-clause-value g c = λ old new newer key again value there same replaces allocates.
    let laws = g.met.T.Eq.laws in let clones = g.T.Clone.is_clone in let keys = g.Key.ArenaKey.keys in
    allocates-there keys laws clones new newer value again (keys.number key) (replaces-known keys laws clones old new key value there same replaces) allocates

pub returns-clause-replaced : goal.returns-clause-replaced
returns-clause-replaced g c = λ old new newer key other value there was distinct replaces at apart allocates.
    let laws = g.met.T.Eq.laws in let clones = g.T.Clone.is_clone in let keys = g.Key.ArenaKey.keys in
    allocates-absent keys laws clones new newer was other (replaces-gone keys laws clones old new key value there was distinct replaces at apart) allocates
