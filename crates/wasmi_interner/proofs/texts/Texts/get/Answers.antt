use Rattle.std.proofs.Common.{length, string_bytes, arith, ap}
use Rattle.wasmi_interner.proofs.JoinedTexts.{part_at, text_at}
use Rattle.wasmi_interner.proofs.texts.Texts.get.Goals as goal

pub overflow_add-part : goal.overflow_add-part
overflow_add-part g c =
    let texts = c.self.inside in
    let end = (part_at (string_bytes texts.joined) texts.parts.items c.args.position c.index-part.result.now c.self.invariant (rw (← c.self.view_is) at c.requires)).end in
    rw (c.index-part.ensures) (omega (arith, end.0, ap length c.as_str.ensures.value, c.as_str.type_inv.0))

pub range-requires-clause-start_boundary : goal.range-requires-clause-start_boundary
range-requires-clause-start_boundary g c =
    let texts = c.self.inside in
    rw (c.as_str.ensures.value, c.index-part.ensures) (part_at (string_bytes texts.joined) texts.parts.items c.args.position c.index-part.result.now c.self.invariant (rw (← c.self.view_is) at c.requires)).start

pub range-requires-clause-end_boundary : goal.range-requires-clause-end_boundary
range-requires-clause-end_boundary g c =
    let texts = c.self.inside in
    rw (c.as_str.ensures.value, c.index-part.ensures) (part_at (string_bytes texts.joined) texts.parts.items c.args.position c.index-part.result.now c.self.invariant (rw (← c.self.view_is) at c.requires)).end

pub returns : goal.returns
returns g c =
    let texts = c.self.inside in
    rw (← c.self.view_is, c.range.ensures.value, c.as_str.ensures.value, c.index-part.ensures) (text_at (string_bytes texts.joined) texts.parts.items c.args.position c.index-part.result.now (rw (← c.self.view_is) at c.requires))
