use Rattle.std.proofs.Common.{◌∙◌, ap, find, map, option_map, bytes_eq}
use Rattle.wasmi_module.specs.Views.{export_of}
use Rattle.wasmi_link_lib.specs.Linking.{named_of}
use Rattle.wasmi_link_lib.specs.inner.Tables.{place_of}
use Rattle.wasmi_link_lib.proofs.Noted.{some_iff, absent_step, exports_step, exports_all}
use Rattle.wasmi_link_lib.proofs.exports.all_exports.Goals as goal

pub note_exports-requires : goal.note_exports-requires
note_exports-requires g c = record {
  absent = absent_step named_of c.args.names.now c.loop-number.exports.entries c.args.modules.now c.loop-number.number c.in_ok-id.id c.loop-number-test.true
      (some_iff _ c.from_usize.result c.loop-number.number c.in_ok-id.id c.from_usize.ensures c.in_ok-id.ensures.ok_part) c.loop-number.invariant;
}

pub loop-number-preserved : goal.loop-number-preserved
loop-number-preserved g c =
    exports_step named_of c.args.names.now c.loop-number.exports.entries c.note_exports.new.exports.entries c.args.modules.now c.loop-number.number c.in_ok-id.id c.index-modules-number.result c.loop-number-test.true c.index-modules-number.is
    (some_iff _ c.from_usize.result c.loop-number.number c.in_ok-id.id c.from_usize.ensures c.in_ok-id.ensures.ok_part) c.loop-number.invariant
    (λ text symbol is. c.in_ok-note_exports.ensures.own text symbol is ∙ ap (λ es. option_map place_of (find (λ e. bytes_eq text e.name) (map export_of es))) c.as_slice.ensures.value) c.in_ok-note_exports.ensures.others

pub returns-clause-ok : goal.returns-clause-ok
returns-clause-ok g c = exports_all named_of c.args.names.now c.loop-number.exports.entries c.args.modules.now c.loop-number.number c.loop-number-test.false c.loop-number.invariant
