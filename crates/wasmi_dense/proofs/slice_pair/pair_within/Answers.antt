use Rattle.std.proofs.Common.{refl, sym}
use Rattle.std.proofs.lemmas.List.{set_comm}
use Rattle.wasmi_dense.proofs.slice_pair.pair_within.Goals as goal

pub returns-else-one-other : goal.returns-else-one-other
returns-else-one-other g c = (
  ((refl, refl), λ x y. set_comm c.args.items.now c.args.other c.args.one y x (λ same. c.requires.apart (sym same))),
  record {
    writes_back = tt;
    first = c.pair_in_order-low.ensures.second;
    second = c.pair_in_order-low.ensures.first;
  },
)
