use Rattle.std.proofs.Common.{◌≤◌, length, rules}
use Rattle.std.proofs.lemmas.List.{take_all}
use Rattle.wasmi_dense.proofs.Components.{component_at-append}
use Rattle.wasmi_dense.proofs.component_vec.raise_extent.Goals as goal

pub returns-clause-components : goal.returns-clause-components
returns-clause-components g c =
    let filled = c.in_ok-resize_with.ensures.items in
    let all : length c.args.slots.now.items ≤ c.in_ok-extent.extent = search rules in
    rw (filled.2, take_all c.in_ok-extent.extent c.args.slots.now.items all) (component_at-append c.args.slots.now.items filled.0 _ filled.1 filled.3 (λ before after slot step. search rules))
