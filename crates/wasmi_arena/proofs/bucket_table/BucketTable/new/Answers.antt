use Rattle.std.proofs.Common.{None, rules}
use Rattle.wasmi_arena.proofs.bucket_table.BucketTable.new.Goals as goal

pub returns-clause-closed : goal.returns-clause-closed
returns-clause-closed g c b below =
    let made = c.from_fn.ensures.items in let call = (made.at b None (rw (← made.long) below)).2 in search rules
