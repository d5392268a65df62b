use Rattle.flusher.proofs.RoundCalls.{lived}
use Rattle.flusher.proofs.lives.rounds_live.Goals as goal

pub returns : goal.returns
returns g c base first last lasting from before in_life =
    lived g.D.Disk.view base g.met.D.Disk.sound from before first in_life.life last in_life.made in_life.order lasting
