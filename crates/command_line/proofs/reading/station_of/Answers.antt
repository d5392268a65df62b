use Rattle.command_line.proofs.Stations.{station_read, station_unread}
use Rattle.command_line.proofs.reading.station_of.Goals as goal

pub returns-in-Ok : goal.returns-in-Ok
returns-in-Ok c = station_read c.args.word.now c.in-Ok.number c.in-Ok.ensures.value.0 c.if-number-gt0.true

pub returns-in_default-2 : goal.returns-in_default-2
returns-in_default-2 c = station_unread c.args.word.now c.in_default.field-0 c.in_default.ensures.value.0
