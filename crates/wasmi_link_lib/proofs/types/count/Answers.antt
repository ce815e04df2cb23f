use Rattle.std.proofs.Common.{arith}
use Rattle.std.proofs.lemmas.List.{length-map}
use Rattle.wasmi_module.specs.Views.{func_type_of}
use Rattle.wasmi_link_lib.specs.Linking.{named_of}
use Rattle.wasmi_link_lib.proofs.Lists.{counted_among, counted_step}
use Rattle.wasmi_link_lib.proofs.types.count.Goals as goal

pub loop-named-preserved : goal.loop-named-preserved
loop-named-preserved g c =
    let x = c.named-item.result in
    let step = counted_step (λ m. m.body.types) named_of c.args.modules.now c.loop-named.named-index x c.loop-named-test.true c.named-item.is in
    omega (arith, c.in-Some.ensures.1, c.len.ensures, length-map x.module.types.items func_type_of, c.loop-named.invariant, step)

pub returns-in_default-clause-keys : goal.returns-in_default-clause-keys
returns-in_default-clause-keys g c = λ _.
    let x = c.named-item.result in
    let among = counted_among (λ m. m.body.types) named_of c.args.modules.now c.loop-named.named-index x c.loop-named-test.true c.named-item.is in
    omega (arith, c.in_default.ensures, c.len.ensures, length-map x.module.types.items func_type_of, c.loop-named.invariant, among)
