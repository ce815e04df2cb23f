use Rattle.wasmi_interner.proofs.string_interner.StringInterner.clone.Goals as goal

pub invariant_of-result : goal.invariant_of-result
invariant_of-result g c = rw (c.in_ok-clone.ensures, c.in_ok-clone-2.ensures.same.0, c.in_ok-clone-2.ensures.same.1) c.self.invariant
