use Rattle.std.proofs.Common.{Some, None, ap, map, sym}
use Rattle.std.proofs.lemmas.Option.{slice_get_past}
use Rattle.wasmi_module.specs.Views.{global_of, module_of}
use Rattle.wasmi_link_lib.specs.inner.Tables.{signature_of}
use Rattle.wasmi_link_lib.proofs.Asked.{own_global}
use Rattle.wasmi_link_lib.proofs.Lists.{got}
use Rattle.wasmi_link_lib.proofs.item.own.Goals as goal

pub returns-in-Some-get-3 : goal.returns-in-Some-get-3
returns-in-Some-get-3 g c =
    let read = c.in-Some-get-3.ensures.lookup in
    own_global (map signature_of c.args.types.now.handed) (module_of c.args.body.now) c.args.kind global_of c.deref-in-Global.result.now c.args.index (Some c.in-Some-get-3.global.now) c.in-Global.is
    (ap (map global_of) (sym c.deref-in-Global.ensures.value)) (got c.deref-in-Global.result.now c.args.index c.in-Some-get-3.global.now read.3.0 read.1)

pub returns-in-None-get-3 : goal.returns-in-None-get-3
returns-in-None-get-3 g c =
    own_global (map signature_of c.args.types.now.handed) (module_of c.args.body.now) c.args.kind global_of c.deref-in-Global.result.now c.args.index None c.in-Global.is
    (ap (map global_of) (sym c.deref-in-Global.ensures.value)) (slice_get_past c.deref-in-Global.result.now c.args.index c.in-None-get-3.ensures.lookup.3)
