use Rattle.recovery.proofs.Lived.{crashed}
use Rattle.recovery.proofs.lives.crash.Goals as goal

pub returns-clause-life : goal.returns-clause-life
returns-clause-life g c limits events = crashed limits events c.args.disk c.crash.result c.crash.ensures.image c.crash.ensures.restarted
