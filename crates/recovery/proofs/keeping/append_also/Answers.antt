use Rattle.std.proofs.Common.{ap}
use Rattle.std.proofs.lemmas.Result.{on_ok_weaker}
use Rattle.gated_journal.specs.declared.place.Place.{Place}
use Rattle.recovery.proofs.keeping.append_also.Goals as goal

pub append_both-requires-clause-within : goal.append_both-requires-clause-within
append_both-requires-clause-within g c = c.requires.within

pub returns-clause-adds : goal.returns-clause-adds
returns-clause-adds g c = c.append_both.ensures.adds

pub returns-clause-ongoing_next : goal.returns-clause-ongoing_next
returns-clause-ongoing_next g c =
    on_ok_weaker c.append_both.result (λ is. ap (λ (p : Place). record c.args.ongoing.now { journal = p }) is) c.append_both.ensures.adds.other_next

pub returns-clause-keeps : goal.returns-clause-keeps
returns-clause-keeps g c = c.append_both.ensures.keeps
