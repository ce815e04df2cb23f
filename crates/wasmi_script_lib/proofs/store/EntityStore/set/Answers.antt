use Rattle.std.proofs.Common.{ℕ, ◌∙◌, List, Option, Some, ap, refl, sym, arith}
use Rattle.std.proofs.lemmas.Option.{none-some, slice_get_past}
use Rattle.std.proofs.lemmas.Result.{IfOk-weaker, on_err_weaker, on_ok_weaker}
use Rattle.wasmi_script_lib.specs.Store.{Store, store_of, with_property}
use Rattle.wasmi_script_lib.proofs.StoreLemmas.{all_shown_length, all_shown_slot, below_extent, on_either, shown_property}
use Rattle.wasmi_script_lib.proofs.store.EntityStore.set.Goals as goal

pub invariant_of-self : goal.invariant_of-self
invariant_of-self g c =
    let inside = c.self.inside in
    let low = rw (← c.self.view_is) at (c.has.ensures.there c.if-has.true) in
    let len = all_shown_length inside.names inside.kinds inside.properties 0 inside.entities in
    let few = c.self.invariant.few in
    record {
      named = c.self.invariant.named;
      few = on_either c.set.result (λ grows. omega (arith, grows, few, low, len)) (λ same. rw same few) c.set.ensures.extent c.set.ensures.err;
    }

pub returns-then-has-clause-old : goal.returns-then-has-clause-old
returns-then-has-clause-old g c =
    let inside = c.self.inside in
    let low = rw (← c.self.view_is) at (c.has.ensures.there c.if-has.true) in
    let len = all_shown_length inside.names inside.kinds inside.properties 0 inside.entities in
    let slot = all_shown_slot inside.names inside.kinds inside.properties c.args.key inside.entities (omega (arith, low, len)) in
    rw (← c.self.view_is) (IfOk-weaker c.set.result _ _ (λ old is. slot ∙ ap Some (sym is)) c.set.ensures.old)

pub returns-then-has-clause-ok : goal.returns-then-has-clause-ok
returns-then-has-clause-ok g c =
    let inside = c.self.inside in
    on_ok_weaker c.set.result (λ changes. shown_property inside.names inside.kinds inside.properties inside.entities c.set.new.self c.args.key (Some c.args.property) changes
    ∙ ap (λ (store : Store). with_property store c.args.key (Some c.args.property)) c.self.view_is) c.set.ensures.changes

pub returns-then-has-clause-out_of_bounds : goal.returns-then-has-clause-out_of_bounds
returns-then-has-clause-out_of_bounds g c =
    let low = c.has.ensures.there c.if-has.true in
    let few = c.has.ensures.few in
    (λ is. absurd (omega (arith, c.set.ensures.out_of_bounds.0 is, low, few)), λ past. absurd (omega (arith, past, low)))

pub returns-then-has-clause-there : goal.returns-then-has-clause-there
returns-then-has-clause-there g c =
    let inside = c.self.inside in
    rw (← c.self.view_is) (λ entity at has. c.set.ensures.below (below_extent inside.names inside.kinds inside.properties c.args.key entity inside.entities at has))

pub returns-then-has-clause-err : goal.returns-then-has-clause-err
returns-then-has-clause-err g c =
    let inside = c.self.inside in
    rw (← c.self.view_is) (on_err_weaker c.set.result (λ same. ap (λ (properties : List (Option ℕ)). store_of inside.names inside.kinds properties inside.entities) same) c.set.ensures.err)

pub returns-else-has-clause-out_of_bounds : goal.returns-else-has-clause-out_of_bounds
returns-else-has-clause-out_of_bounds g c = (λ is. c.has.ensures.past c.if-has.false, λ past. refl)

pub returns-else-has-clause-there : goal.returns-else-has-clause-there
returns-else-has-clause-there g c =
    λ entity at has. absurd (none-some entity (sym (slice_get_past c.args.self.now.entities c.args.key (c.has.ensures.past c.if-has.false)) ∙ at))
