use Rattle.checkpoint.proofs.Readback.{taken_limits}
use Rattle.checkpoint.proofs.reading.take_row.Goals as goal

pub returns-clause-limits : goal.returns-clause-limits
returns-clause-limits g c = taken_limits c.args.loader.now c.take.new.self c.read.new.bytes (c.in_ok-take.ensures.taken c.if-not-branch.false)
