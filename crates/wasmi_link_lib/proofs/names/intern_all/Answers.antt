use Rattle.std.proofs.Common.{◌+◌, ◌<◌, ◌^◌, ◌∙◌, ap, append-nil, length, map, subst, sym, take}
use Rattle.std.specs.List.{fold}
use Rattle.std.specs.Str.{bytes_eq}
use Rattle.std.proofs.lemmas.List.{map_push}
use Rattle.std.proofs.lemmas.List.Sums.{fold-append}
use Rattle.wasmi_link_lib.specs.Linking.{named_of, all_names, names_of, with_value}
use Rattle.wasmi_link_lib.specs.inner.Tables.{HasSymbols}
use Rattle.wasmi_link_lib.proofs.Lists.{flat_map_read, map_read, more_among, parts-append, take_read}
use Rattle.wasmi_link_lib.proofs.Refusals.{was_met}
use Rattle.wasmi_link_lib.proofs.Zips.{all_symbols_stay, zipped_step}
use Rattle.wasmi_link_lib.proofs.names.intern_all.Goals as goal

pub loop-named-preserved : goal.loop-named-preserved
loop-named-preserved g c =
    let i = c.loop-named.named-index in
    let x = c.named-item.result in
    let old = c.loop-named.names in
    let new = c.intern_names.new.names in
    let modules = c.args.modules.now in
    record {
      taken = c.in_ok-symbols.ensures.ok ∙ ap (λ ns. fold (with_value bytes_eq) ns (names_of (named_of x))) c.loop-named.invariant.taken
          ∙ sym (fold-append (with_value bytes_eq) c.args.names.now (all_names (map named_of (take i modules))) (names_of (named_of x)))
          ∙ ap (fold (with_value bytes_eq) c.args.names.now) (sym (flat_map_read names_of named_of modules i x c.loop-named-test.true c.named-item.is));
      symbols = zipped_step (HasSymbols old) (HasSymbols new) (all_symbols_stay old new (names_of (named_of x)) c.in_ok-symbols.ensures.ok)
          (map named_of (take i modules)) (map named_of (take (i + 1) modules)) (map (λ s. s.items) c.loop-named.all.items) (map (λ s. s.items) c.push.new.self.items) (named_of x) c.in_ok-symbols.symbols.items
          c.loop-named.invariant.symbols (map_read named_of modules i x c.loop-named-test.true c.named-item.is)
          (ap (map (λ s. s.items)) c.in_ok-push.ensures.items ∙ map_push (λ s. s.items) c.loop-named.all.items c.in_ok-symbols.symbols) c.in_ok-symbols.ensures.symbols;
    }

pub returns-in_err-symbols-clause-keys : goal.returns-in_err-symbols-clause-keys
returns-in_err-symbols-clause-keys g c = λ is.
    let i = c.loop-named.named-index in
    let x = c.named-item.result in
    let old = c.loop-named.names in
    let modules = c.args.modules.now in
    more_among bytes_eq (λ ms. all_names (map named_of ms)) (parts-append names_of named_of) (2 ^ 32) c.args.names.now old modules i x (take_read modules i x c.loop-named-test.true c.named-item.is)
    c.loop-named.invariant.taken (subst (λ ns. 2 ^ 32 < length (fold (with_value bytes_eq) old ns)) (sym (append-nil (names_of (named_of x))))
    (c.in_err-symbols.ensures.keys (was_met c.from_residual-in_err-symbols.result c.in_err-symbols.field-0.0 c.from_residual-in_err-symbols.ensures.1 is)))
