use Rattle.wasmi_interner.proofs.Filing.{no_index}
use Rattle.wasmi_interner.proofs.index.Index.clear.Goals as goal

pub returns : goal.returns
returns g c = no_index c.clear.new.self c.clear-2.new.self.entries c.clear.ensures c.clear-2.ensures
