use Rattle.std.proofs.Common.{arith, bytes_eq}
use Rattle.wasmi_link_lib.proofs.Lists.{with_value_new}
use Rattle.wasmi_link_lib.proofs.names.intern.Goals as goal

pub returns-clause-keys : goal.returns-clause-keys
returns-clause-keys g c = λ is.
    let full = c.get_or_intern.ensures.no_symbol.0 is in
    omega (arith, full.1, with_value_new bytes_eq c.args.names.now c.args.name.now full.0)
