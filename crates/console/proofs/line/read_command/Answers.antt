use Rattle.console.specs.Inside.Left.{words_in}
use Rattle.console.proofs.Forms.{said_short}
use Rattle.console.proofs.line.read_command.Goals as goal

pub line_of_command-requires : goal.line_of_command-requires
line_of_command-requires g c =
    said_short g.row.A.Denot c.args.form (words_in c.args.words.now) c.in-Ok-Some.field-0 c.in-Ok-Some.body c.in-Ok-Some.ensures.ok c.in-Ok-Some.field-0-is
