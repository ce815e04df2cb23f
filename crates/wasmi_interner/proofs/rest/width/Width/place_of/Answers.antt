use Rattle.std.proofs.Common.{sym}
use Rattle.std.proofs.lemmas.Nat.{and_mask}
use Rattle.wasmi_interner.proofs.rest.width.Width.place_of.Goals as goal

pub returns : goal.returns
returns c = rw (sym c.get.ensures.value, c.get.ensures.width.2) (and_mask c.args.rank c.get.ensures.width.0)
