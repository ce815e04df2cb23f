use Rattle.std.proofs.Common.{◌<◌, ◌^◌, ◌∙◌, ap, inl, inr, length, map, subst, sym}
use Rattle.std.specs.List.{fold}
use Rattle.std.specs.Str.{bytes_eq}
use Rattle.std.proofs.lemmas.List.{length-map}
use Rattle.wasmi_link_lib.specs.Linking.{all_names, named_of, with_value}
use Rattle.wasmi_link_lib.proofs.Refusals.{was_met}
use Rattle.wasmi_link_lib.proofs.linker.Linker.new.Goals as goal

pub returns-clause-ok : goal.returns-clause-ok
returns-clause-ok g c = record {
  has_names = c.in_ok-symbols.ensures.ok ∙ ap (λ ns. fold (with_value bytes_eq) ns (all_names (map named_of c.args.modules.now))) c.new-names.ensures;
  has_symbols = c.in_ok-symbols.ensures.symbols;
  has_types = c.in_ok-types.ensures.ok;
  has_firsts = c.in_ok-firsts.ensures.ok;
  has_exports = c.in_ok-exports.ensures.ok;
  has_imported = c.in_ok-imported.ensures.ok;
}

pub returns-in_err-symbols-clause-keys : goal.returns-in_err-symbols-clause-keys
returns-in_err-symbols-clause-keys g c = λ is.
    inr (inl (subst (λ ns. 2 ^ 32 < length (fold (with_value bytes_eq) ns (all_names (map named_of c.args.modules.now)))) c.new-names.ensures
    (c.in_err-symbols.ensures.keys (was_met c.from_residual.result c.in_err-symbols.field-0.0 c.from_residual.ensures.1 is))))

pub returns-in_err-types-clause-keys : goal.returns-in_err-types-clause-keys
returns-in_err-types-clause-keys g c = λ is.
    inr (inr (inl (c.in_err-types.ensures.keys (was_met c.from_residual-in_err-types.result c.in_err-types.field-0.0 c.from_residual-in_err-types.ensures.1 is))))

pub returns-in_err-firsts-clause-keys : goal.returns-in_err-firsts-clause-keys
returns-in_err-firsts-clause-keys g c = λ is.
    inl (subst (λ n. 2 ^ 32 < n) (sym (length-map c.args.modules.now named_of)) (c.in_err-firsts.ensures.keys (was_met c.from_residual-in_err-firsts.result c.in_err-firsts.field-0.0 c.from_residual-in_err-firsts.ensures.1 is)))

pub returns-in_err-exports-clause-keys : goal.returns-in_err-exports-clause-keys
returns-in_err-exports-clause-keys g c = λ is.
    inl (subst (λ n. 2 ^ 32 < n) (sym (length-map c.args.modules.now named_of)) (c.in_err-exports.ensures.keys (was_met c.from_residual-in_err-exports.result c.in_err-exports.field-0.0 c.from_residual-in_err-exports.ensures.1 is)))

pub returns-in_err-imported-clause-keys : goal.returns-in_err-imported-clause-keys
returns-in_err-imported-clause-keys g c = λ is.
    inl (subst (λ n. 2 ^ 32 < n) (sym (length-map c.args.modules.now named_of)) (c.in_err-imported.ensures.keys (was_met c.from_residual-in_err-imported.result c.in_err-imported.field-0.0 c.from_residual-in_err-imported.ensures.1 is)))
