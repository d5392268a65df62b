use Rattle.std.proofs.Common.{◌∙◌, ap}
use Rattle.std.specs.Option.{is_none}
use Rattle.checkpoint.proofs.Walked.{none_is, whole_where_none}
use Rattle.checkpoint.proofs.progress.ImageProgress.is_whole.Goals as goal

pub returns : goal.returns
returns g c = none_is c.row_after.result c.is_none.result c.is_none.ensures ∙ ap is_none c.row_after.ensures ∙
    whole_where_none c.args.self.now.epoch c.args.register.now c.args.self.now c.requires.begun
