use Rattle.std.proofs.Common.{◌≡◌, ◌*◌, ◌-◌, ◌%◌, ◌^◌, arith}
use Rattle.wasmi_interner.proofs.BinaryDigits.{digits_from, digits_least}
use Rattle.wasmi_interner.proofs.probe.half_of.Goals as goal

pub returns-clause-digit : goal.returns-clause-digit
returns-clause-digit c =
    let top = c.ilog2.result in let from = c.ilog2.ensures.power_le in let above = c.ilog2.ensures.next_power_gt in
    let same : 1 * 2 ^ top % 18446744073709551616 ≡ 2 ^ top = omega (arith, from, c.ranges.len.fits) in
    rw same (omega (arith, digits_least (2 ^ top - 1) top (omega (arith, above, c.requires)), digits_from c.args.len top c.ranges.len.fits from))
