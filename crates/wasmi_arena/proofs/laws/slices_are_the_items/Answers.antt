use Rattle.wasmi_arena.proofs.FilledParts.{flat_map-filled_parts}
use Rattle.wasmi_arena.proofs.laws.slices_are_the_items.Goals as goal

pub returns : goal.returns
returns g c = flat_map-filled_parts
