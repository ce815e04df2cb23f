use Rattle.std.proofs.Common.{◌∙◌}
use Rattle.wasmi_module.specs.Views.{export_of}
use Rattle.wasmi_link_lib.specs.inner.Tables.{place_in}
use Rattle.wasmi_link_lib.proofs.Noted.{places_step}
use Rattle.wasmi_link_lib.proofs.exports.note_exports.Goals as goal

pub loop-export-preserved : goal.loop-export-preserved
loop-export-preserved g c = record {
  own = places_step export_of c.args.names.now (place_in c.loop-export.exports.entries c.args.id) (place_in c.note_export.new.exports.entries c.args.id) c.args.taken.now c.loop-export.export-index _ c.loop-export-test.true
      c.loop-export.invariant.own c.in_ok-note_export.ensures.own;
  others = λ other symbol apart. c.in_ok-note_export.ensures.others other symbol apart ∙ c.loop-export.invariant.others other symbol apart;
}
