use Rattle.mm_pdus.proofs.ValueLaws as values
use Rattle.mm_pdus.proofs.laws.numbers_name_values.Goals as goal

pub returns-clause-update : goal.returns-clause-update
returns-clause-update c = values.update_numbered

pub returns-clause-lifetime : goal.returns-clause-lifetime
returns-clause-lifetime c = values.lifetime_numbered

pub returns-clause-leave : goal.returns-clause-leave
returns-clause-leave c = values.leave_numbered

pub returns-clause-detach : goal.returns-clause-detach
returns-clause-detach c = values.detach_numbered
