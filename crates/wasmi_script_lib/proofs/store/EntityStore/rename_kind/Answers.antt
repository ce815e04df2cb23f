use Rattle.std.proofs.Common.{◌≡◌, ℕ, true, subst, List, [], Err, slice_index_or, ap, length, sym, ◌∙◌}
use Rattle.std.proofs.lemmas.Option.{none-some, same_Some}
use Rattle.std.proofs.lemmas.List.{length-map}
use Rattle.std.proofs.lemmas.Result.{on_err_weaker, on_ok_weaker}
use Rattle.wasmi_script_lib.specs.Store.{Entity, is_other_kind, shown, store_of}
use Rattle.wasmi_script_lib.proofs.ResultLemmas.{bound_not_duplicate}
use Rattle.wasmi_script_lib.proofs.StoreLemmas.{IsSound-kinds, all_shown_at, all_shown_past, err_bound, named_at, on_either, one_more, rename_bound, shown_renamed, tells_other}
use Rattle.wasmi_script_lib.proofs.store.EntityStore.rename_kind.Goals as goal

pub returns-in-Ok-clause-ok : goal.returns-in-Ok-clause-ok
returns-in-Ok-clause-ok g c =
    let inside = c.self.inside in let named = c.in-Ok.named.now in
    let old = slice_index_or inside.kinds named.kind [] in
    let at = all_shown_at inside.names inside.kinds inside.properties c.args.key inside.entities named c.in-Ok.ensures.item in
    let renames = shown_renamed inside.names inside.kinds inside.properties inside.entities old c.args.kind.now c.self.invariant in
    rw (← c.self.view_is) (on_ok_weaker c.rename.result (λ kinds_are. (shown inside.names inside.kinds inside.properties c.args.key named, at, ap (λ (kinds : List (List ℕ)). store_of inside.names kinds inside.properties inside.entities) kinds_are ∙ renames)) c.rename.ensures.ok)

pub returns-in-Ok-clause-duplicate : goal.returns-in-Ok-clause-duplicate
returns-in-Ok-clause-duplicate g c =
    let inside = c.self.inside in let named = c.in-Ok.named.now in
    let entity = shown inside.names inside.kinds inside.properties c.args.key named in
    let at = all_shown_at inside.names inside.kinds inside.properties c.args.key inside.entities named c.in-Ok.ensures.item in
    let duplicate = c.rename.ensures.duplicate in
    let store = store_of inside.names inside.kinds inside.properties inside.entities in
    let other_kind = tells_other store entity c.args.kind.now in
    rw (← c.self.view_is) (
      λ is. (entity, at, other_kind.1 (duplicate.0 is)),
      λ other. duplicate.1 (other_kind.0 (subst (λ (e : Entity). is_other_kind store e c.args.kind.now ≡ true) (same_Some other.0 entity (sym other.1 ∙ at)) other.2)),
    )

pub returns-in-Err-clause-duplicate : goal.returns-in-Err-clause-duplicate
returns-in-Err-clause-duplicate g c =
    let inside = c.self.inside in
    let error = c.in-Err.ensures.errors in
    let none = all_shown_past inside.names inside.kinds inside.properties c.args.key inside.entities (c.in-Err.ensures.out_of_bounds.0 (ap Err error)) in
    rw (← c.self.view_is) (λ is. absurd (bound_not_duplicate c.in-Err.error error is), λ other. absurd (none-some other.0 (sym none ∙ other.1)))

pub returns-in-Ok-clause-same : goal.returns-in-Ok-clause-same
returns-in-Ok-clause-same g c =
    let inside = c.self.inside in let named = c.in-Ok.named.now in
    let here = shown inside.names inside.kinds inside.properties c.args.key named in
    let at = all_shown_at inside.names inside.kinds inside.properties c.args.key inside.entities named c.in-Ok.ensures.item in
    rw (← c.self.view_is) (λ entity there kind_is. c.rename.ensures.same (ap (λ (e : Entity). e.kind) (same_Some here entity (sym at ∙ there)) ∙ kind_is))

pub returns-in-Err-clause-same : goal.returns-in-Err-clause-same
returns-in-Err-clause-same g c =
    let inside = c.self.inside in
    let none = all_shown_past inside.names inside.kinds inside.properties c.args.key inside.entities (c.in-Err.ensures.out_of_bounds.0 (ap Err c.in-Err.ensures.errors)) in
    rw (← c.self.view_is) (λ entity there kind_is. absurd (none-some entity (sym none ∙ there)))

pub rename-requires : goal.rename-requires
rename-requires g c =
    let inside = c.self.inside in
    (named_at inside.names inside.kinds inside.properties c.args.key c.in-Ok.named.now inside.entities c.self.invariant c.in-Ok.ensures.item).1

pub invariant_of-self : goal.invariant_of-self
invariant_of-self g c =
    let inside = c.self.inside in
    IsSound-kinds inside.names inside.kinds inside.properties c.rename.new.self inside.entities (on_either c.rename.result (λ renames. ap length renames ∙ length-map _ _) (λ same. ap length same) c.rename.ensures.ok c.rename.ensures.err) c.self.invariant

pub returns-in-Ok-clause-out_of_bounds : goal.returns-in-Ok-clause-out_of_bounds
returns-in-Ok-clause-out_of_bounds g c =
    let inside = c.self.inside in
    rw (← c.self.view_is) (rename_bound inside.names inside.kinds inside.properties c.rename.result c.args.key c.in-Ok.named.now inside.entities c.rename.ensures.errors c.in-Ok.ensures.item)

pub returns-in-Ok-clause-errors : goal.returns-in-Ok-clause-errors
returns-in-Ok-clause-errors g c = one_more _ _ c.rename.result c.rename.ensures.errors

pub returns-in-Ok-clause-err : goal.returns-in-Ok-clause-err
returns-in-Ok-clause-err g c =
    let inside = c.self.inside in
    rw (← c.self.view_is) (on_err_weaker c.rename.result (λ same. ap (λ (kinds : List (List ℕ)). store_of inside.names kinds inside.properties inside.entities) same) c.rename.ensures.err)

pub returns-in-Err-clause-out_of_bounds : goal.returns-in-Err-clause-out_of_bounds
returns-in-Err-clause-out_of_bounds g c =
    let inside = c.self.inside in
    rw (← c.self.view_is) (err_bound inside.names inside.kinds inside.properties c.in-Err.error c.args.key inside.entities c.in-Err.ensures.out_of_bounds)
