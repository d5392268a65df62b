use Rattle.std.proofs.Common.{None, refl}
use Rattle.checkpoint.proofs.Walked.{progress_begun}
use Rattle.checkpoint.proofs.progress.ImageProgress.begun.Goals as goal

pub returns-clause-begun : goal.returns-clause-begun
returns-clause-begun g c = progress_begun c.args.epoch c.args.register.now c.registers.ensures.state c.registers.ensures.ranges (record { epoch = c.args.epoch; written = 0; last = None }) refl refl
