use Rattle.std.proofs.Common.{rules, refl, inr}
use Rattle.recovery.proofs.serving.StoreDesk.list.Goals as goal

pub returns-in-Ok-clause-listed : goal.returns-in-Ok-clause-listed
returns-in-Ok-clause-listed g c = (c.in-Some.register.now, search rules, search rules)

pub returns-in-Err-clause-unlisted : goal.returns-in-Err-clause-unlisted
returns-in-Err-clause-unlisted g c = inr (refl, (c.in-Some.register.now, search rules, search rules))
