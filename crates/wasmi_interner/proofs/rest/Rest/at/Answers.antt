use Rattle.std.proofs.Common.{◌∙◌, arith, vec_items}
use Rattle.wasmi_interner.proofs.RestBlocks.{at_rank}
use Rattle.wasmi_interner.proofs.rest.Rest.at.Goals as goal

pub index-requires : goal.index-requires
index-requires g c =
    let there = at_rank c.self.inside.width c.args.rank c.block_of.result (vec_items c.self.inside.blocks) c.args.self.now c.self.view_is c.self.invariant.0 c.self.invariant.2 c.requires c.block_of.ensures in
    omega (arith, there.0, c.self.inside.blocks.ok)

pub at-requires : goal.at-requires
at-requires g c =
    let there = at_rank c.self.inside.width c.args.rank c.block_of.result (vec_items c.self.inside.blocks) c.args.self.now c.self.view_is c.self.invariant.0 c.self.invariant.2 c.requires c.block_of.ensures in
    (there.1 c.place_of.result c.index.result.now c.place_of.ensures c.index.ensures).0

pub returns : goal.returns
returns g c =
    let there = at_rank c.self.inside.width c.args.rank c.block_of.result (vec_items c.self.inside.blocks) c.args.self.now c.self.view_is c.self.invariant.0 c.self.invariant.2 c.requires c.block_of.ensures in
    (there.1 c.place_of.result c.index.result.now c.place_of.ensures c.index.ensures).1 ∙ c.at.ensures
