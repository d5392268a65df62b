use Rattle.centre_core.proofs.StationLaws.{accepted_have_room}
use Rattle.centre_core.proofs.laws.accepted_have_room.Goals as goal

pub returns : goal.returns
returns g c = accepted_have_room
