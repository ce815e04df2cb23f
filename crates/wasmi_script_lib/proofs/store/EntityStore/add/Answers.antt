use Rattle.std.proofs.Common.{List, Err, ap, sym, subst, inl, inr, ◌∙◌, arith}
use Rattle.std.proofs.lemmas.Result.{IfOk-weaker, on_ok_weaker, on_err_weaker}
use Rattle.wasmi_arena.specs.declared.error.ArenaError.TheVariants.{NotEnoughKeys}
use Rattle.wasmi_script_lib.specs.Store.{Store, KeepsEntities, store_of, with_entity}
use Rattle.wasmi_script_lib.specs.declared.store.Named.{Named}
use Rattle.wasmi_script_lib.proofs.ResultLemmas.{is_passed, keys_not_memory, passed_is, was_met}
use Rattle.wasmi_script_lib.proofs.StoreLemmas.{all_shown_length, full, keys_left, not_full, OnErr-of, shown_added, shown_kept, sound_kept, sound_pushed}
use Rattle.wasmi_script_lib.proofs.store.EntityStore.add.Goals as goal

pub returns-in_err-next_key-clause-no_key : goal.returns-in_err-next_key-clause-no_key
returns-in_err-next_key-clause-no_key g c =
    let inside = c.self.inside in
    let met = passed_is c.from_residual.result c.in_err-next_key.field-0.0 c.from_residual.ensures.1 in
    let high = c.in_err-next_key.ensures.no_key.0 (ap Err c.in_err-next_key.ensures.errors) in
    rw (← c.self.view_is) (λ is. full inside.names inside.kinds inside.properties inside.entities c.args.name.now high, λ _. met ∙ ap Err c.in_err-next_key.ensures.errors)

pub returns-in_err-name-clause-no_key : goal.returns-in_err-name-clause-no_key
returns-in_err-name-clause-no_key g c =
    let inside = c.self.inside in
    let met = passed_is c.from_residual-in_err-name.result c.in_err-name.field-0.0 c.from_residual-in_err-name.ensures.1 in
    let no_symbol = c.in_err-name.ensures.no_symbol in
    rw (← c.self.view_is) (
      λ is. inr (no_symbol.0 (was_met c.from_residual-in_err-name.result c.in_err-name.field-0.0 NotEnoughKeys met is)),
      λ full. elim full [
        | inl all ↦ absurd (keys_left inside.names inside.kinds inside.properties inside.entities c.in_ok-next_key.ensures.has_key all)
        | inr new ↦ is_passed c.from_residual-in_err-name.result c.in_err-name.field-0.0 NotEnoughKeys met (no_symbol.1 new)
      ],
    )

pub invariant_of-self-in_err-kind : goal.invariant_of-self-in_err-kind
invariant_of-self-in_err-kind g c =
    let inside = c.self.inside in
    sound_kept inside.names inside.kinds inside.properties inside.entities c.args.name.now c.args.kind.now c.self.invariant c.intern.new.names c.number_for.new.self (inr c.in_ok-name.ensures.ok) (inl c.in_err-kind.ensures.err)

pub returns-in_err-kind-clause-no_key : goal.returns-in_err-kind-clause-no_key
returns-in_err-kind-clause-no_key g c =
    let inside = c.self.inside in
    let met = passed_is c.from_residual-in_err-kind.result c.in_err-kind.field-0.0 c.from_residual-in_err-kind.ensures.1 in
    let memory = c.in_err-kind.ensures.errors in
    rw (← c.self.view_is) (λ is. absurd (keys_not_memory c.from_residual-in_err-kind.result c.in_err-kind.field-0.0 met is memory), λ all. absurd (not_full inside.names inside.kinds inside.properties inside.entities c.args.name.now c.in_ok-name.name c.in_ok-next_key.ensures.has_key c.in_ok-name.ensures.no_symbol.1 all))

pub returns-in_err-kind-clause-err : goal.returns-in_err-kind-clause-err
returns-in_err-kind-clause-err g c =
    let inside = c.self.inside in
    let kept = shown_kept inside.names inside.kinds inside.properties inside.entities c.args.name.now c.args.kind.now c.self.invariant c.intern.new.names c.number_for.new.self (inr c.in_ok-name.ensures.ok) (inl c.in_err-kind.ensures.err) in
    rw (← c.self.view_is) (OnErr-of c.from_residual-in_err-kind.result kept)

pub invariant_of-self-2 : goal.invariant_of-self-2
invariant_of-self-2 g c =
    let inside = c.self.inside in
    sound_pushed inside.names inside.kinds inside.properties inside.entities c.args.name.now c.args.kind.now c.self.invariant c.intern.new.names c.number_for.new.self c.in_ok-name.ensures.ok c.in_ok-kind.ensures.ok (record { name = c.in_ok-name.name; kind = c.in_ok-kind.kind }) c.in_ok-name.ensures.reads c.in_ok-kind.ensures.reads c.alloc.result c.alloc.new.self c.alloc.ensures.ok c.alloc.ensures.err

pub returns-clause-ok : goal.returns-clause-ok
returns-clause-ok g c =
    let inside = c.self.inside in
    let added = shown_added inside.names inside.kinds inside.properties inside.entities c.args.name.now c.args.kind.now c.self.invariant c.intern.new.names c.number_for.new.self c.in_ok-name.ensures.ok c.in_ok-kind.ensures.ok (record { name = c.in_ok-name.name; kind = c.in_ok-kind.kind }) c.in_ok-name.ensures.reads c.in_ok-kind.ensures.reads in
    on_ok_weaker c.alloc.result (λ pushed. ap (λ (entities : List Named). store_of c.intern.new.names c.number_for.new.self inside.properties entities) pushed ∙ (added ∙ ap (λ (store : Store). with_entity store c.args.name.now c.args.kind.now) c.self.view_is)) c.alloc.ensures.ok

pub returns-clause-no_key : goal.returns-clause-no_key
returns-clause-no_key g c =
    let inside = c.self.inside in
    let low = c.in_ok-next_key.ensures.has_key in
    rw (← c.self.view_is) (λ is. absurd (let high = c.alloc.ensures.no_key.0 is in omega (arith, high, low)), λ all. absurd (not_full inside.names inside.kinds inside.properties inside.entities c.args.name.now c.in_ok-name.name low c.in_ok-name.ensures.no_symbol.1 all))

pub returns-clause-err : goal.returns-clause-err
returns-clause-err g c =
    let inside = c.self.inside in
    let kept = shown_kept inside.names inside.kinds inside.properties inside.entities c.args.name.now c.args.kind.now c.self.invariant c.intern.new.names c.number_for.new.self (inr c.in_ok-name.ensures.ok) (inr c.in_ok-kind.ensures.ok) in
    rw (← c.self.view_is) (on_err_weaker c.alloc.result (λ stays. subst (λ (entities : List Named). KeepsEntities (store_of inside.names inside.kinds inside.properties inside.entities) c.args.name.now c.args.kind.now (store_of c.intern.new.names c.number_for.new.self inside.properties entities)) (sym stays) kept) c.alloc.ensures.err)

pub returns-clause-key : goal.returns-clause-key
returns-clause-key g c =
    let inside = c.self.inside in
    rw (← c.self.view_is) (IfOk-weaker c.alloc.result _ _ (λ key is. is ∙ sym (all_shown_length inside.names inside.kinds inside.properties 0 inside.entities)) c.alloc.ensures.key)
