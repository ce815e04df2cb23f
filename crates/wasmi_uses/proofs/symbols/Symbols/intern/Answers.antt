use Rattle.wasmi_uses.proofs.NameLemmas.{distinct_after, read_after, kept_after}
use Rattle.wasmi_uses.proofs.symbols.Symbols.intern.Goals as goal

pub invariant_of-self-in-None : goal.invariant_of-self-in-None
invariant_of-self-in-None c =
    distinct_after c.args.name.now c.alloc.result c.self.inside.names c.alloc.new.self c.in_ok-from_str-in-None.field-0
    c.alloc.ensures.ok c.alloc.ensures.err c.in_ok-from_str-in-None.ensures.ok c.self.invariant (rw c.self.view_is c.in-None.ensures.absent)

pub returns-in_ok-from_str-in-None-clause-symbol : goal.returns-in_ok-from_str-in-None-clause-symbol
returns-in_ok-from_str-in-None-clause-symbol c =
    read_after c.args.name.now c.alloc.result c.self.inside.names c.alloc.new.self c.in_ok-from_str-in-None.field-0
    c.alloc.ensures.key c.alloc.ensures.ok c.in_ok-from_str-in-None.ensures.ok

pub returns-in_ok-from_str-in-None-clause-kept : goal.returns-in_ok-from_str-in-None-clause-kept
returns-in_ok-from_str-in-None-clause-kept c symbol known e =
    kept_after c.args.name.now c.alloc.result c.self.inside.names c.alloc.new.self c.in_ok-from_str-in-None.field-0
    c.alloc.ensures.ok c.alloc.ensures.err symbol known (rw c.self.view_is e)

pub returns-in_ok-from_str-in-None-clause-distinct : goal.returns-in_ok-from_str-in-None-clause-distinct
returns-in_ok-from_str-in-None-clause-distinct c =
    distinct_after c.args.name.now c.alloc.result c.self.inside.names c.alloc.new.self c.in_ok-from_str-in-None.field-0
    c.alloc.ensures.ok c.alloc.ensures.err c.in_ok-from_str-in-None.ensures.ok c.self.invariant (rw c.self.view_is c.in-None.ensures.absent)
