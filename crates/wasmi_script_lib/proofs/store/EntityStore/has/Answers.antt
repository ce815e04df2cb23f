use Rattle.std.proofs.Common.{arith}
use Rattle.std.proofs.lemmas.Bool.{ltb-true, ltb-false}
use Rattle.wasmi_script_lib.proofs.store.EntityStore.has.Goals as goal

pub returns-clause-there : goal.returns-clause-there
returns-clause-there g c =
    let number = c.into_usize.ensures.number in let len = c.len.ensures.value in
    λ is. omega (arith, ltb-true _ _ is, number, len)

pub returns-clause-past : goal.returns-clause-past
returns-clause-past g c =
    let number = c.into_usize.ensures.number in let len = c.len.ensures.value in
    λ is. omega (arith, ltb-false _ _ is, number, len)
