use Rattle.std.proofs.Common.{◌≡◌, ◌+◌, ◌-◌, ◌∙◌, Some, ap, length, map, option_map, slice_get, sym, arith}
use Rattle.wasmi_module.specs.Views.{module_of}
use Rattle.wasmi_link_lib.specs.inner.Tables.{imported_of, keyed, signature_of}
use Rattle.wasmi_link_lib.proofs.Asked.{imported_within, imported_item, own_item}
use Rattle.wasmi_link_lib.proofs.Lists.{got}
use Rattle.wasmi_link_lib.proofs.imported.item.Goals as goal

pub asked-requires-clause-within : goal.asked-requires-clause-within
asked-requires-clause-within g c =
    let m = module_of c.args.body.now in
    let read = c.in-Some.ensures.lookup in
    imported_within m c.args.kind c.args.index c.in-Some.item.now c.requires.valid
    (ap (λ xs. slice_get xs c.args.index) (sym (c.get-before.ensures m c.requires.imported)) ∙ got c.get-before.result.now c.args.index c.in-Some.item.now read.3.0 read.1)

pub returns-in-Some : goal.returns-in-Some
returns-in-Some g c =
    let m = module_of c.args.body.now in
    let read = c.in-Some.ensures.lookup in
    ap Some c.asked.ensures
    ∙ sym (ap (option_map (keyed (map signature_of c.args.types.now.handed))) (imported_item m c.args.kind c.args.index c.in-Some.item.now
    (ap (λ xs. slice_get xs c.args.index) (sym (c.get-before.ensures m c.requires.imported)) ∙ got c.get-before.result.now c.args.index c.in-Some.item.now read.3.0 read.1)))

pub returns-in-None : goal.returns-in-None
returns-in-None g c =
    let m = module_of c.args.body.now in
    let before = c.get-before.result.now in
    let same = ap length (c.get-before.ensures m c.requires.imported) in
    let past = c.in-None.ensures.lookup.3 in
    let rest : length (imported_of c.args.kind m) + (c.args.index - length before) ≡ c.args.index = omega (arith, same, past) in
    c.own.ensures ∙ sym (ap (option_map (keyed (map signature_of c.args.types.now.handed))) (own_item m c.args.kind c.args.index (c.args.index - length before) rest))
