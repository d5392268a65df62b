use Rattle.std.proofs.Common.{false}
use Rattle.console.specs.Reading.{reading}
use Rattle.console.proofs.Permitted.{pdu_permitted}
use Rattle.console.proofs.hearing.read_without_orders.Goals as goal

pub returns-in-Err-clause-err : goal.returns-in-Err-clause-err
returns-in-Err-clause-err g c = pdu_permitted false (reading {A = g.row.A.Denot} c.args.station c.args.line.now) c.in-Err.unread.sequence c.in-Err.ensures.err
