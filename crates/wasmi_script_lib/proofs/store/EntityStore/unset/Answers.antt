use Rattle.std.proofs.Common.{◌∙◌, Some, None, is_ok, ap, refl, sym, true≢false, arith}
use Rattle.wasmi_script_lib.specs.Store.{Store, with_property}
use Rattle.wasmi_script_lib.proofs.StoreLemmas.{all_shown_length, all_shown_slot, shown_property}
use Rattle.wasmi_script_lib.proofs.store.EntityStore.unset.Goals as goal

pub returns-then-has-clause-old : goal.returns-then-has-clause-old
returns-then-has-clause-old g c =
    let inside = c.self.inside in
    let low = rw (← c.self.view_is) at (c.has.ensures.there c.if-has.true) in
    let len = all_shown_length inside.names inside.kinds inside.properties 0 inside.entities in
    rw (← c.self.view_is) (all_shown_slot inside.names inside.kinds inside.properties c.args.key inside.entities (omega (arith, low, len)) ∙ ap Some (sym c.unset.ensures.old))

pub returns-then-has-clause-ok : goal.returns-then-has-clause-ok
returns-then-has-clause-ok g c =
    let inside = c.self.inside in
    shown_property inside.names inside.kinds inside.properties inside.entities c.unset.new.self c.args.key None c.unset.ensures.changes
    ∙ ap (λ (store : Store). with_property store c.args.key None) c.self.view_is

pub returns-then-has-clause-out_of_bounds : goal.returns-then-has-clause-out_of_bounds
returns-then-has-clause-out_of_bounds g c =
    let low = c.has.ensures.there c.if-has.true in
    (λ is. absurd (true≢false (ap is_ok is)), λ past. absurd (omega (arith, past, low)))

pub returns-else-has-clause-out_of_bounds : goal.returns-else-has-clause-out_of_bounds
returns-else-has-clause-out_of_bounds g c = (λ is. c.has.ensures.past c.if-has.false, λ past. refl)
