use Rattle.wasmi_module.proofs.LacksModule.{header_magic, header_version}
use Rattle.wasmi_module.proofs.reader.Reader.header.Goals as goal

pub returns-then-ne : goal.returns-then-ne
returns-then-ne c = λ after h.
    header_magic c.in_ok-bytes.field-0.now c.bytes.new.self c.args.self.now after c.in_ok-bytes.ensures.0 c.in_ok-bytes.ensures.1
    (λ same. let other = rw (same, c.as_slice.ensures) at c.if-ne.ensures in absurd cc) h

pub returns-then-ne-2 : goal.returns-then-ne-2
returns-then-ne-2 c = λ after h.
    header_version c.in_ok-bytes.field-0.now c.in_ok-bytes-2.field-0.now c.bytes-2.new.self c.args.self.now c.bytes.new.self after
    c.in_ok-bytes.ensures.0 c.in_ok-bytes.ensures.1 c.in_ok-bytes-2.ensures.0 c.in_ok-bytes-2.ensures.1
    (λ same. let other = rw (same, c.as_slice-2.ensures) at c.if-ne-2.ensures in absurd cc) h
