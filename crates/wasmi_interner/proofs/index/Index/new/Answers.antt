use Rattle.wasmi_interner.proofs.Filing.{no_index}
use Rattle.wasmi_interner.proofs.index.Index.new.Goals as goal

pub returns : goal.returns
returns g c = no_index c.new.result c.new-2.result.entries c.new.ensures c.new-2.ensures
