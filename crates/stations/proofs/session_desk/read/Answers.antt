use Rattle.std.proofs.Common.{rules}
use Rattle.stations.proofs.OnlyRead.{only_reads}
use Rattle.stations.proofs.session_desk.read.Goals as goal

pub returns-in-Ok-clause-answers : goal.returns-in-Ok-clause-answers
returns-in-Ok-clause-answers g c =
    let reads = c.read.ensures.reads in
    (only_reads g.J.Centre.base c.args.session.now c.read.new.self reads, (search rules, reads.seen))

pub returns-in-Err-NoMemory-clause-answers : goal.returns-in-Err-NoMemory-clause-answers
returns-in-Err-NoMemory-clause-answers g c =
    let reads = c.read.ensures.reads in
    (only_reads g.J.Centre.base c.args.session.now c.read.new.self reads, (search rules, reads.seen))

pub returns-in-Err-Closed-clause-answers : goal.returns-in-Err-Closed-clause-answers
returns-in-Err-Closed-clause-answers g c =
    (only_reads g.J.Centre.base c.args.session.now c.read.new.self c.read.ensures.reads, search rules)
