use Rattle.std.proofs.Common.{length, ltb, map, string_bytes, ap, ◌∙◌}
use Rattle.wasmi_arena.specs.Geometry.{max_len}
use Rattle.wasmi_script_lib.specs.inner.Sessions.{with_texts}
use Rattle.wasmi_script_lib.specs.States.{State}
use Rattle.wasmi_script_lib.specs.Store.{Store}
use Rattle.wasmi_script_lib.proofs.KeptLemmas.{of-either}
use Rattle.wasmi_script_lib.proofs.session.serve.Goals as goal

-- the state, with these entities
abbrev with_entities : Store → State → State
with_entities store state = record state { store = store }

pub returns-in_ok-alloc-in-Some-Alloc-clause-state : goal.returns-in_ok-alloc-in-Some-Alloc-clause-state
returns-in_ok-alloc-in-Some-Alloc-clause-state g c =
    let texts = c.args.texts.now in let store = c.args.store.now in
    let kept = map string_bytes texts.arena in
    rw (← c.in-Some-Alloc.ensures, c.in-Some-Alloc.field-0-is, ← c.in-Some-Alloc.text-is) (ap (with_entities store) c.in_ok-alloc-in-Some-Alloc.ensures.state ∙ of-either (with_entities store) (ltb (length kept) max_len) _ (with_texts texts))
