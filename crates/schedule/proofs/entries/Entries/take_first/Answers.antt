use Rattle.schedule.proofs.entries.Entries.take_first.Goals as goal

pub returns-clause-first : goal.returns-clause-first
returns-clause-first g c = cc (c.in-Some.ensures.2 c.remove.result, c.deref.ensures.value, c.remove.ensures.value, c.self.view_is)
