use Rattle.wasmi_interner.proofs.string_interner.StringInternerPartialEq.eq.Goals as goal

pub returns : goal.returns
returns g c = rw (← c.self.view_is, ← c.other.view_is) c.eq.ensures
