use Rattle.group_attach.proofs.Places.{after_all}
use Rattle.group_attach.proofs.list.place.Goals as goal

pub returns-then-ends_before-clause-place : goal.returns-then-ends_before-clause-place
returns-then-ends_before-clause-place c = after_all c.args.entries.now (c.args.itsi, c.args.gtsi) (c.ends_before.ensures c.if-ends_before.true).0 (c.ends_before.ensures c.if-ends_before.true).1
