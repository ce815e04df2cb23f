use Rattle.std.proofs.Common.{◌∙◌, sym, arith}
use Rattle.wasmi_script_lib.proofs.StoreLemmas.{all_shown_length, listed}
use Rattle.wasmi_script_lib.proofs.store.EntityStore.len.Goals as goal

pub returns-clause-value : goal.returns-clause-value
returns-clause-value g c =
    let inside = c.self.inside in
    rw (← c.self.view_is) (c.len.ensures.value ∙ sym (all_shown_length inside.names inside.kinds inside.properties 0 inside.entities))

pub returns-clause-most : goal.returns-clause-most
returns-clause-most g c =
    let inside = c.self.inside in
    let most = c.len.ensures.keyed in
    rw (← c.self.view_is) (omega (arith, most, all_shown_length inside.names inside.kinds inside.properties 0 inside.entities))

pub returns-clause-listed : goal.returns-clause-listed
returns-clause-listed g c =
    let inside = c.self.inside in
    rw (← c.self.view_is) (listed inside.names inside.kinds inside.properties 0 inside.entities c.self.invariant.named)
