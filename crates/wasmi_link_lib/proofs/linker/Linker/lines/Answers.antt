use Rattle.std.proofs.Common.{◌<◌, arith, length, subst, sym, ◌∙◌, Some, ap, flat_map, map, take_all}
use Rattle.std.proofs.lemmas.List.{length-map}
use Rattle.std.proofs.lemmas.Slice.Zip.{AllZip-long}
use Rattle.wasmi_module.specs.Valid.{IsValid}
use Rattle.wasmi_link_lib.specs.Lines.{line_of}
use Rattle.wasmi_link_lib.specs.Linking.{line_for, named_of}
use Rattle.wasmi_link_lib.specs.inner.Tables.{HasSymbols, signature_of}
use Rattle.wasmi_link_lib.proofs.Keys.{has_keys}
use Rattle.wasmi_link_lib.proofs.Lists.{All_get, Contains-got, got, pieces_step, slice_get_map}
use Rattle.wasmi_link_lib.proofs.Zips.{AllZip-read}
use Rattle.wasmi_link_lib.proofs.linker.Linker.lines.Goals as goal

pub push_lines-requires-clause-asker_valid : goal.push_lines-requires-clause-asker_valid
push_lines-requires-clause-asker_valid g c =
    let asker = c.index-modules-number.result in
    let at = slice_get_map named_of c.args.modules.now c.loop-number.number (Some asker) (got c.args.modules.now c.loop-number.number asker c.loop-number-test.true c.index-modules-number.is) in
    All_get (λ m. IsValid m.body) (map named_of c.args.modules.now) c.loop-number.number (named_of asker) c.requires.valid at

pub push_lines-requires-clause-keys : goal.push_lines-requires-clause-keys
push_lines-requires-clause-keys g c =
    let asker = c.index-modules-number.result in
    let at = slice_get_map named_of c.args.modules.now c.loop-number.number (Some asker) (got c.args.modules.now c.loop-number.number asker c.loop-number-test.true c.index-modules-number.is) in
    has_keys (map signature_of c.args.self.now.types.handed) (map named_of c.args.modules.now) (named_of asker) c.requires.linker.has_types (Contains-got (map named_of c.args.modules.now) c.loop-number.number (named_of asker) at)

pub index-requires : goal.index-requires
index-requires g c =
    let symbols = c.args.self.now.symbols in
    let long = AllZip-long (HasSymbols c.args.self.now.names) (map named_of c.args.modules.now) (map (λ s. s.items) symbols.items) c.requires.linker.has_symbols in
    omega (arith, c.loop-number-test.true, long, length-map c.args.modules.now named_of, length-map symbols.items (λ s. s.items), symbols.ok.0)

pub push_lines-requires-clause-symbols : goal.push_lines-requires-clause-symbols
push_lines-requires-clause-symbols g c =
    let names = c.args.self.now.names in
    let symbols = c.args.self.now.symbols in
    let number = c.loop-number.number in
    let asker = c.index-modules-number.result in
    let long = AllZip-long (HasSymbols names) (map named_of c.args.modules.now) (map (λ s. s.items) symbols.items) c.requires.linker.has_symbols in
    let in' : number < length symbols.items = omega (arith, c.loop-number-test.true, long, length-map c.args.modules.now named_of, length-map symbols.items (λ s. s.items)) in
    subst (HasSymbols names (named_of asker)) (sym c.as_slice-symbols.ensures.value)
    (AllZip-read (HasSymbols names) (map named_of c.args.modules.now) (map (λ s. s.items) symbols.items) number (named_of asker) c.index.result.now.items c.requires.linker.has_symbols
    (slice_get_map named_of c.args.modules.now number (Some asker) (got c.args.modules.now number asker c.loop-number-test.true c.index-modules-number.is))
    (slice_get_map (λ s. s.items) symbols.items number (Some c.index.result.now) (got symbols.items number c.index.result.now in' c.index.ensures)))

pub loop-number-preserved : goal.loop-number-preserved
loop-number-preserved g c =
    let modules = map named_of c.args.modules.now in
    pieces_step (λ asker. map (line_for modules asker) asker.body.imports) named_of (map line_of c.loop-number.lines.items) (map line_of c.push_lines.new.lines.items) c.args.modules.now c.loop-number.number c.index-modules-number.result
    c.loop-number-test.true c.index-modules-number.is c.loop-number.invariant c.in_ok-push_lines.ensures.ok

pub returns-clause-ok : goal.returns-clause-ok
returns-clause-ok g c =
    let modules = map named_of c.args.modules.now in
    c.loop-number.invariant ∙ ap (λ ms. flat_map (λ asker. map (line_for modules asker) asker.body.imports) (map named_of ms)) (take_all c.loop-number.number c.args.modules.now c.loop-number-test.false)
