use Rattle.wasmi_interner.proofs.string_interner.StringInterner.len.Goals as goal

pub returns-clause-distinct : goal.returns-clause-distinct
returns-clause-distinct g c = rw (← c.self.view_is) c.self.invariant.0.distinct
