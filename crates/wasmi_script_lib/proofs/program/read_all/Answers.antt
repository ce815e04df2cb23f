use Rattle.std.proofs.Common.{arith}
use Rattle.wasmi_script_lib.proofs.ReadLemmas.{read-to_end}
use Rattle.wasmi_script_lib.proofs.program.read_all.Goals as goal

pub returns-then-count-eq0-clause-bytes : goal.returns-then-count-eq0-clause-bytes
returns-then-count-eq0-clause-bytes g c =
    let remaining = g.R.Read.remaining in
    read-to_end (remaining c.args.reader.now) (remaining c.loop.reader) (remaining c.read.new.self) c.loop.input.items c.read.new.buf c.in-Ok.count c.loop.invariant c.if-count-eq0.true (let room = c.read.auto.buf in omega (arith, room)) c.in-Ok.ensures.bytes
