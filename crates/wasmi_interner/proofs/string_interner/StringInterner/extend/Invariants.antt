use Rattle.wasmi_interner.specs.Interner.{InternsEach}
use Rattle.wasmi_interner.proofs.string_interner.StringInterner.extend.Given as goal

-- the texts so far are interned
abbrev pub invariant-loop-text : goal.invariant-loop-text
invariant-loop-text g l = (goal.iterator-loop-text g).can_next l.text-iterator × (goal.iterator-loop-text g).is_finite l.text-iterator
    × InternsEach l.fn.self l.yielded l.self
