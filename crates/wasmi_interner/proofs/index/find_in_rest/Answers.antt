use Rattle.std.proofs.Common.{arith, length}
use Rattle.wasmi_interner.proofs.BinaryDigits.{digits_mono}
use Rattle.wasmi_interner.proofs.Filing.{found_text, found_within, rest_few, rest_searchable}
use Rattle.wasmi_interner.proofs.index.find_in_rest.Goals as goal

pub rank_in-requires-clause-in_order : goal.rank_in-requires-clause-in_order
rank_in-requires-clause-in_order g c =
    let sought = c.args.sought.now in
    rest_searchable sought.texts.now sought.hash sought.text.now sought.hashed c.args.rest.now.entries c.requires.sorted

pub at-requires : goal.at-requires
at-requires g c =
    let sought = c.args.sought.now in
    found_within sought.texts.now sought.hash sought.text.now c.args.rest.now.entries c.in-Ok.rank c.in-Ok.ensures.found

pub returns-in-Ok-clause-there : goal.returns-in-Ok-clause-there
returns-in-Ok-clause-there g c =
    let sought = c.args.sought.now in
    found_text sought.texts.now sought.hash sought.text.now c.args.rest.now.entries c.requires.sorted.each c.in-Ok.rank c.at.result c.in-Ok.ensures.found c.at.ensures

pub returns-in-Ok-clause-few_steps : goal.returns-in-Ok-clause-few_steps
returns-in-Ok-clause-few_steps g c =
    let n = length c.args.sought.now.texts.now in
    omega (arith, c.in-Ok.ensures.few_steps, digits_mono (length c.args.rest.now.entries) n (rest_few c.args.sought.now.texts.now c.args.rest.now.entries c.requires.sorted))

pub returns-in-Err-clause-few_steps : goal.returns-in-Err-clause-few_steps
returns-in-Err-clause-few_steps g c =
    let n = length c.args.sought.now.texts.now in
    omega (arith, c.in-Err.ensures.few_steps, digits_mono (length c.args.rest.now.entries) n (rest_few c.args.sought.now.texts.now c.args.rest.now.entries c.requires.sorted))
