use Rattle.recovery.specs.Lives.{begins}
use Rattle.recovery.proofs.Lived.{begins_durable}
use Rattle.recovery.proofs.lives.begins.Goals as goal

pub returns-clause-each : goal.returns-clause-each
returns-clause-each g c base disk honest each = begins disk honest each

pub returns-clause-durable : goal.returns-clause-durable
returns-clause-durable g c = begins_durable g.D.Disk.view
