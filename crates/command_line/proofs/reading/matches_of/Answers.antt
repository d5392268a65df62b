use Rattle.std.proofs.Common.{map}
use Rattle.clap.specs.Words.{app_of}
use Rattle.command_line.proofs.Found.{refused, taken}
use Rattle.command_line.proofs.reading.matches_of.Goals as goal

pub returns-in-Ok-clause-taken : goal.returns-in-Ok-clause-taken
returns-in-Ok-clause-taken g c = taken (app_of c.in_ok-command.command) (map g.S.AsStr.text c.args.words.now) c.in-Ok.matches
    c.in_ok-command.ensures.0 c.in-Ok.ensures.kinds c.in-Ok.ensures.matches

pub returns-in-Err-clause-refused : goal.returns-in-Err-clause-refused
returns-in-Err-clause-refused g c = refused (app_of c.in_ok-command.command) (map g.S.AsStr.text c.args.words.now) c.in-Err.error
    c.refusal_of.result c.in_ok-command.ensures.0 c.in-Err.ensures.kinds c.refusal_of.ensures
