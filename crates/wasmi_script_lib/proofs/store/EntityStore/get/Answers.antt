use Rattle.std.proofs.Common.{◌∙◌}
use Rattle.wasmi_script_lib.proofs.StoreLemmas.{all_shown_read, err_bound, named_at, ok_bound}
use Rattle.wasmi_script_lib.proofs.store.EntityStore.get.Goals as goal

pub text-name-requires : goal.text-name-requires
text-name-requires g c =
    let inside = c.self.inside in
    (named_at inside.names inside.kinds inside.properties c.args.key c.in-Ok.named.now inside.entities c.self.invariant c.in-Ok.ensures.item).0

pub text-kind-requires : goal.text-kind-requires
text-kind-requires g c =
    let inside = c.self.inside in
    (named_at inside.names inside.kinds inside.properties c.args.key c.in-Ok.named.now inside.entities c.self.invariant c.in-Ok.ensures.item).1

pub returns-in-Ok-clause-entity : goal.returns-in-Ok-clause-entity
returns-in-Ok-clause-entity g c =
    let inside = c.self.inside in
    rw (← c.self.view_is) (all_shown_read inside.names inside.kinds inside.properties c.args.key inside.entities c.in-Ok.named.now c.text-name.result.now c.text-kind.result.now c.copied.result c.in-Ok.ensures.item c.text-name.ensures c.text-kind.ensures (c.copied.ensures ∙ c.get-in-Ok.ensures))

pub returns-in-Ok-clause-out_of_bounds : goal.returns-in-Ok-clause-out_of_bounds
returns-in-Ok-clause-out_of_bounds g c =
    let inside = c.self.inside in
    rw (← c.self.view_is) (ok_bound inside.names inside.kinds inside.properties _ _ c.args.key inside.entities c.in-Ok.ensures.out_of_bounds)

pub returns-in-Err-clause-out_of_bounds : goal.returns-in-Err-clause-out_of_bounds
returns-in-Err-clause-out_of_bounds g c =
    let inside = c.self.inside in
    rw (← c.self.view_is) (err_bound inside.names inside.kinds inside.properties c.in-Err.error c.args.key inside.entities c.in-Err.ensures.out_of_bounds)
