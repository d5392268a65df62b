use Rattle.std.proofs.Common.{subst}
use Rattle.std.specs.Prelude.{IsSome}
use Rattle.console.specs.Reading.{reading, sequence_of}
use Rattle.served_disk.proofs.GivesWay.{no_query}
use Rattle.served_disk.proofs.showing.answer.Goals as goal

pub returns-in_default : goal.returns-in_default
returns-in_default g c =
    no_query c.args.register.now (reading 1 c.args.line.now)
    (subst (λ station. IsSome (sequence_of (reading {A = g.row.A.Denot} station c.args.line.now))) c.new.ensures c.in_default.ensures.err)
