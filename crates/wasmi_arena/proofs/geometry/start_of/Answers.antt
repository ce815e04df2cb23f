use Rattle.std.proofs.Common.{arith}
use Rattle.wasmi_arena.proofs.Doubling.{start-size, start_mono}
use Rattle.wasmi_arena.proofs.geometry.start_of.Goals as goal

pub returns : goal.returns
returns c = omega (arith, start-size c.args.bucket, start_mono c.args.bucket 27 c.requires)
