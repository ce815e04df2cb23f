use Rattle.std.proofs.Common.{◌≡◌, ◌∙◌, List, ap, arith, length, map, sym, take}
use Rattle.std.proofs.lemmas.List.{length-map}
use Rattle.wasmi_link_lib.specs.Linking.{named_of}
use Rattle.wasmi_link_lib.specs.inner.Tables.{ImportedItems, all_imported, imported_view}
use Rattle.wasmi_link_lib.proofs.Lists.{mapped_step}
use Rattle.wasmi_link_lib.proofs.Noted.{length_so_far}
use Rattle.wasmi_link_lib.proofs.Refusals.{was_met}
use Rattle.wasmi_link_lib.proofs.imported.of_all.Goals as goal

pub loop-named-preserved : goal.loop-named-preserved
loop-named-preserved g c =
    mapped_step imported_view (λ m. all_imported m.body) named_of c.loop-named.all.items c.alloc.new.self.items c.in_ok-imported.imported c.args.modules.now c.loop-named.named-index c.named-item.result c.loop-named-test.true c.named-item.is
    c.loop-named.invariant c.in_ok-alloc.ensures.ok c.in_ok-imported.ensures

pub returns-in_err-alloc-clause-keys : goal.returns-in_err-alloc-clause-keys
returns-in_err-alloc-clause-keys g c = λ is.
    let i = c.loop-named.named-index in
    let items = c.loop-named.all.items in
    let as_many : length items ≡ i = sym (length-map items imported_view) ∙ ap (λ (l : List ImportedItems). length l) c.loop-named.invariant
    ∙ length-map (map named_of (take i c.args.modules.now)) (λ m. all_imported m.body) ∙ sym (length_so_far named_of c.args.modules.now i c.loop-named-test.true) in
    let full = c.in_err-alloc.ensures.no_key.0 (was_met c.from_residual-in_err-alloc.result c.in_err-alloc.field-0.0 c.from_residual-in_err-alloc.ensures.1 is) in
    omega (arith, full, as_many, c.loop-named-test.true)
