use Rattle.wasmi_link_lib.specs.Linking.{named_of}
use Rattle.wasmi_link_lib.proofs.Noted.{some_iff, firsts_step, firsts_all}
use Rattle.wasmi_link_lib.proofs.firsts.first_modules.Goals as goal

pub loop-number-preserved : goal.loop-number-preserved
loop-number-preserved g c =
    firsts_step named_of c.args.names.now c.loop-number.firsts c.note_first.new.firsts c.args.modules.now c.loop-number.number c.in_ok-id.id c.index-modules-number.result c.loop-number-test.true c.index-modules-number.is
    (some_iff _ c.from_usize.result c.loop-number.number c.in_ok-id.id c.from_usize.ensures c.in_ok-id.ensures.ok_part) c.loop-number.invariant c.in_ok-note_first.ensures.ok

pub returns-clause-ok : goal.returns-clause-ok
returns-clause-ok g c = firsts_all named_of c.args.names.now c.loop-number.firsts c.args.modules.now c.loop-number.number c.loop-number-test.false c.loop-number.invariant
